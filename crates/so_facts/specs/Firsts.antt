-- Which of the demands that wait a lane takes.
use Rattle.std.specs.Prelude.{◌≡◌, ℕ, ◌≤◌, List, true, false, Some}
use Rattle.so_ids.specs.declared.AgentId.{AgentId}
use Rattle.so_ids.specs.declared.DemandId.{DemandId}
use Rattle.so_ids.specs.declared.DispId.{DispId}
use Rattle.so_ids.specs.declared.LaneId.{LaneId}
use Rattle.so_ids.specs.declared.Opening.{Opening}
use Rattle.so_ids.specs.Ids.{is_earlier}
use Rattle.so_scene.specs.declared.parts.DispKind.TheVariants.{StrictlyOrdered, QuotedRoundRobin}
use Rattle.so_scene.specs.declared.parts.SceneParts.{SceneParts}
use Rattle.so_scene.specs.Parts.{agent_of, priority_of}
use Rattle.so_history.specs.declared.entry.Entry.{Entry}
use Rattle.so_history.specs.declared.entry.EntryKind.TheVariants.{Begin, Skip}
use Rattle.so_history.specs.declared.entry.SkipWhy.{SkipWhy}
use Rattle.so_history.specs.declared.entry.Demand.{Demand}
use Rattle.so_history.specs.Places.{before}
use Rattle.so_history.specs.Demands.{named, waiting}
use Rattle.so_history.specs.Safety.{kind_of}
use Rattle.so_history.specs.Heads.{moved_round, round}
use Rattle.so_history.specs.Order.{may_take}
use Rattle.so_history.specs.Facts.{StandsAt, ShareQueue}

-- a demand waits when the entry at a place is made
abbrev pub WaitsAt : SceneParts → List Entry → ℕ → Demand → Type 0
WaitsAt s h place d = named d.id (waiting s (before h place)) ≡ Some d

-- a lane takes a demand at a place: a turn begins with it, or it is skipped
pub data TakesOn (h : List Entry) (place : ℕ) (lane : LaneId) (id : DemandId) : Type 0 where
  begins : (opening : Opening) (agent : AgentId) → StandsAt h place (Begin lane (Some id) opening agent) → TakesOn h place lane id
  skips : (why : SkipWhy) → StandsAt h place (Skip lane id why) → TakesOn h place lane id

-- taken first: a lane takes the earliest demand of those that it may take; where its dispatcher is strictly_ordered, none of a
-- higher priority waits in the queue; and where it is quoted_round_robin, the demand has the priority to which the dispatcher's round
-- has moved over what waits
pub record TakenFirst (s : SceneParts) (h : List Entry) : Type 0 where
  pub earliest :
      (place : ℕ) (lane : LaneId) (c d : Demand) → TakesOn h place lane d.id → WaitsAt s h place d → WaitsAt s h place c →
      may_take s (before h place) lane c ≡ true → is_earlier c.id d.id ≡ false
  pub highest :
      (place : ℕ) (lane : LaneId) (c d : Demand) → TakesOn h place lane d.id → WaitsAt s h place d → WaitsAt s h place c →
      kind_of s d.agent ≡ StrictlyOrdered → ShareQueue s c.agent d.agent → (priority_of s c.agent).level ≤ (priority_of s d.agent).level
  pub by_round :
      (place : ℕ) (lane : LaneId) (d : Demand) (disp : DispId) → TakesOn h place lane d.id → WaitsAt s h place d →
      kind_of s d.agent ≡ QuotedRoundRobin → disp ≡ (agent_of s d.agent).disp →
      (priority_of s d.agent).level ≡ (moved_round s (waiting s (before h place)) disp (round s (before h place) disp)).priority.level
