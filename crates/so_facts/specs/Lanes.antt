-- A lane has one turn at a time, of an agent that it serves.
use Rattle.std.specs.Prelude.{◌≡◌, ◌⊎◌, ℕ, ◌<◌, List, Option, true}
use Rattle.so_ids.specs.declared.AgentId.{AgentId}
use Rattle.so_ids.specs.declared.DemandId.{DemandId}
use Rattle.so_ids.specs.declared.LaneId.{LaneId}
use Rattle.so_ids.specs.declared.Opening.{Opening}
use Rattle.so_scene.specs.declared.parts.SceneParts.{SceneParts}
use Rattle.so_scene.specs.Lanes.{lanes, lane_at, queue_of, serves_queue}
use Rattle.so_history.specs.declared.entry.Entry.{Entry}
use Rattle.so_history.specs.declared.entry.EntryKind.TheVariants.{Begin, Skip}
use Rattle.so_history.specs.declared.entry.SkipWhy.{SkipWhy}
use Rattle.so_history.specs.declared.entry.Demand.{Demand}
use Rattle.so_history.specs.Safety.{is_safe}
use Rattle.so_history.specs.Facts.{StandsAt, BeginsAt, EndsBefore, ShareQueue}
use Rattle.so_facts.specs.Firsts.{WaitsAt}

-- a turn of an agent begins at a place on a lane
pub record BeginsOn (h : List Entry) (place : ℕ) (lane : LaneId) (agent : AgentId) : Type 0 where
  pub demand : Option DemandId
  pub opening : Opening
  pub stands : StandsAt h place (Begin lane demand opening agent)

-- a lane skips a demand at a place
pub record SkipsOn (h : List Entry) (place : ℕ) (lane : LaneId) (id : DemandId) : Type 0 where
  pub why : SkipWhy
  pub stands : StandsAt h place (Skip lane id why)

-- the lane is one of the scene's, and takes demands from the agent's queue
pub record ServesAgent (s : SceneParts) (lane : LaneId) (agent : AgentId) : Type 0 where
  pub there : lane.0 < lanes s
  pub serves : serves_queue (lane_at s lane) (queue_of s agent) ≡ true

-- no demand is skipped while a turn of its queue runs that isn't thread-safe
abbrev pub SkipsApart : SceneParts → List Entry → Type 0
SkipsApart s h =
    (i j : ℕ) (lane : LaneId) (a : AgentId) (first : Opening) (d : Demand) → i < j → BeginsAt h i a first → SkipsOn h j lane d.id →
    WaitsAt s h j d → ShareQueue s a d.agent → EndsBefore h i j ⊎ (is_safe s a first ≡ true)

-- lanes in turn: of two turns of one lane the earlier ends before the later begins, and before the lane skips a demand; no demand is
-- skipped beside a turn that shares its queue and isn't thread-safe; and a lane begins turns, and skips demands, only of agents that it
-- serves
pub record LanesInTurn (s : SceneParts) (h : List Entry) : Type 0 where
  pub turns : (i j : ℕ) (lane : LaneId) (a b : AgentId) → i < j → BeginsOn h i lane a → BeginsOn h j lane b → EndsBefore h i j
  pub skips : (i j : ℕ) (lane : LaneId) (a : AgentId) (id : DemandId) → i < j → BeginsOn h i lane a → SkipsOn h j lane id → EndsBefore h i j
  pub apart : SkipsApart s h
  pub serves : (place : ℕ) (lane : LaneId) (a : AgentId) → BeginsOn h place lane a → ServesAgent s lane a
  pub serves_skipped :
      (place : ℕ) (lane : LaneId) (d : Demand) → SkipsOn h place lane d.id → WaitsAt s h place d →
      ServesAgent s lane d.agent
