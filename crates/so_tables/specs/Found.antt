-- What a step found is what the history says.
use Rattle.std.specs.Prelude.{◌≡◌, ℕ, List, Some}
use Rattle.so_ids.specs.declared.LaneId.{LaneId}
use Rattle.so_scene.specs.declared.parts.SceneParts.{SceneParts}
use Rattle.so_scene.specs.Lanes.{key_of}
use Rattle.so_history.specs.declared.entry.Entry.{Entry}
use Rattle.so_history.specs.declared.entry.EntryKind.{EntryKind}
use Rattle.so_history.specs.declared.entry.EntryKind.TheVariants.{Begin, Skip, Act, End}
use Rattle.so_history.specs.Turns.{Started, Course, turn_at, course, move_of}
use Rattle.so_history.specs.Finishing.{finishes}
use Rattle.so_history.specs.Safety.{is_safe}
use Rattle.so_history.specs.Order.{runs_safe, pick, opening_of}
use Rattle.so_tables.specs.declared.found.FoundDemand.{FoundDemand}
use Rattle.so_tables.specs.declared.found.FoundTurn.{FoundTurn}
use Rattle.so_tables.specs.declared.found.Found.{Found}
use Rattle.so_tables.specs.declared.found.Found.TheVariants as what

-- the demand that the lane may take, with its queue, and whether its turn is thread-safe
pub record IsDemandFound (s : SceneParts) (h : List Entry) (lane : LaneId) (d : FoundDemand) : Type 0 where
  pub picked : pick s h lane ≡ Some d.demand
  pub key : key_of s d.demand.agent ≡ d.key
  pub safe : is_safe s d.demand.agent (opening_of s h d.demand) ≡ d.safe

-- the turn that runs at the place, as it began, with the variables of its last move
pub record IsTurnFound (s : SceneParts) (h : List Entry) (place : ℕ) (t : FoundTurn) : Type 0 where
  pub turn : Started
  pub runs : turn_at h place ≡ Some turn
  pub agent : turn.agent ≡ t.agent
  pub lane : turn.lane ≡ t.lane
  pub key : key_of s turn.agent ≡ t.key
  pub safe : runs_safe s turn ≡ t.safe
  pub finishes : finishes turn ≡ t.finishes
  pub reached : Course
  pub has : course s h place ≡ Some reached
  pub vars : (move_of s reached).1.vars ≡ t.vars

abbrev pub HasDemand : SceneParts → List Entry → LaneId → Found → Type 0
HasDemand s h lane (what.Demand d) = IsDemandFound s h lane d
HasDemand s h lane other = ⊥

abbrev pub HasTurn : SceneParts → List Entry → ℕ → Found → Type 0
HasTurn s h place (what.Turn t) = IsTurnFound s h place t
HasTurn s h place other = ⊥

-- what is found with an entry of each kind
abbrev pub IsFound : SceneParts → List Entry → EntryKind → Found → Type 0
IsFound s h (Begin lane demand opening agent) found = HasDemand s h lane found
IsFound s h (Skip lane demand why) found = HasDemand s h lane found
IsFound s h (Act turn effect answer) found = HasTurn s h turn.0 found
IsFound s h (End turn) found = HasTurn s h turn.0 found
IsFound s h other found = Unit {0}
