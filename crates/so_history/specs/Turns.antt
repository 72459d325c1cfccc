-- Which turns began, which run, and how far each has come.
use Rattle.std.specs.Prelude.{ℕ, ◌==◌, List, [], ◌∷◌, ◌++◌, length, Bool, false, not, ◌||◌, ◌&&◌, Option, Some, None, if◌then◌else◌}
use Rattle.std.specs.List.{filter, find}
use Rattle.std.specs.Option.{option_map}
use Rattle.so_ids.specs.declared.PartyId.{PartyId}
use Rattle.so_ids.specs.declared.CoopId.{CoopId}
use Rattle.so_ids.specs.declared.LaneId.{LaneId}
use Rattle.so_ids.specs.declared.KeyId.{KeyId}
use Rattle.so_ids.specs.declared.AgentId.{AgentId}
use Rattle.so_ids.specs.declared.DemandId.{DemandId}
use Rattle.so_ids.specs.declared.Payload.{Payload}
use Rattle.so_ids.specs.declared.Vars.{Vars}
use Rattle.so_ids.specs.declared.Opening.{Opening}
use Rattle.so_code.specs.declared.frame.Frame.{Frame}
use Rattle.so_code.specs.declared.effect.Answer.{Answer}
use Rattle.so_code.specs.declared.effect.Answer.TheVariants as answer
use Rattle.so_code.specs.declared.effect.Effect.{Effect}
use Rattle.so_code.specs.declared.effect.Effect.TheVariants as effect
use Rattle.so_code.specs.declared.effect.Move.{Move}
use Rattle.so_code.specs.Machine.{after}
use Rattle.so_code.specs.Openings.{first_frame}
use Rattle.so_code.specs.Answers.{answered}
use Rattle.so_scene.specs.declared.parts.SceneParts.{SceneParts}
use Rattle.so_scene.specs.Parts.{code_of, vars_of}
use Rattle.so_scene.specs.Lanes.{key_of}
use Rattle.so_history.specs.declared.entry.Entry.{Entry}
use Rattle.so_history.specs.declared.entry.EntryKind.{EntryKind}
use Rattle.so_history.specs.declared.entry.EntryKind.TheVariants.{Register, Begin, Act, End}
use Rattle.so_history.specs.declared.entry.EventSource.{EventSource}
use Rattle.so_history.specs.Leaves.{is_of}
use Rattle.so_history.specs.Demands.{message_of, event_of}
use Rattle.so_history.specs.Safety.{is_safe}

-- a turn: the place of its Begin, and what stands there
pub record Started : Type 0 where
  pub place : ℕ
  pub by : PartyId
  pub lane : LaneId
  pub agent : AgentId
  pub opening : Opening

abbrev pub started_by : ℕ → PartyId → EntryKind → List Started
started_by place by (Begin lane demand opening agent) =
    record { place = place; by = by; lane = lane; agent = agent; opening = opening } ∷ []
started_by place by _ = []

-- all turns that began
unfoldable pub turns : List Entry → List Started
turns [] = []
turns (e ∷ h) = turns h ++ started_by (length h) e.by e.kind

abbrev pub ends : EntryKind → ℕ → Bool
ends (End turn) t = turn.0 == t
ends _ t = false

-- the turn at a place has ended
unfoldable pub ended : List Entry → ℕ → Bool
ended [] t = false
ended (e ∷ h) t = ends e.kind t || ended h t

-- the turns that have not ended
unfoldable pub running : List Entry → List Started
running h = filter (λ t. not (ended h t.place)) (turns h)

-- those that a number is told of
abbrev pub running_at : (Started → ℕ) → List Entry → ℕ → List Started
running_at f h n = filter (λ t. f t == n) (running h)

-- those on a lane
abbrev pub lane_number : Started → ℕ
lane_number t = t.lane.0

abbrev pub running_on : List Entry → LaneId → List Started
running_on h lane = running_at lane_number h lane.0

-- those of agents whose events stand in one queue
abbrev pub key_number : SceneParts → Started → ℕ
key_number s t = (key_of s t.agent).0

abbrev pub running_with : SceneParts → List Entry → KeyId → List Started
running_with s h key = running_at (key_number s) h key.0

-- the running turn at a place
abbrev pub turn_at : List Entry → ℕ → Option Started
turn_at h place = find (λ t. t.place == place) (running h)

-- how far a turn has come: whose it is, whether it is thread-safe, by what its event is looked up, and its frame
pub record Course : Type 0 where
  pub agent : AgentId
  pub safe : Bool
  pub event : Option EventSource
  pub frame : Frame

-- its next move, with the frame after it
abbrev pub move_of : SceneParts → Course → Move × Frame
move_of s c = after (code_of s c.agent) c.frame

-- the course after the answer to its move's effect
abbrev pub answer_to : SceneParts → Answer → Course → Course
answer_to s answer c = record c { frame = answered answer (move_of s c).1 }

-- the variables of an agent after a turn that ends: those of the turn's last move, where the turn is its own and isn't thread-safe
abbrev pub ended_vars : SceneParts → AgentId → Option Course → Vars → Vars
ended_vars s a None v = v
ended_vars s a (Some c) v = if c.agent.0 == a.0 && not c.safe then (move_of s c).1.vars else v

-- after a registration: the agents of the cooperation have those of the scene
abbrev pub first_vars : SceneParts → CoopId → AgentId → Vars → Vars
first_vars s coop a v = if is_of s coop a then vars_of s a else v

abbrev pub vars_by_effect : SceneParts → Effect → Answer → AgentId → Vars → Vars
vars_by_effect s (effect.Register coop) answer.Okay a v = first_vars s coop a v
vars_by_effect s effect answer a v = v

-- and after one more entry
abbrev pub vars_after : SceneParts → (ℕ → Option Course) → EntryKind → AgentId → Vars → Vars
vars_after s courses (Register coop) a v = first_vars s coop a v
vars_after s courses (Act turn effect answer) a v = vars_by_effect s effect answer a v
vars_after s courses (End turn) a v = ended_vars s a (courses turn.0) v
vars_after s courses other a v = v

-- what a turn begins with: its agent's variables, and its demand's event and message
pub record Beginnings : Type 0 where
  pub vars : AgentId → Vars
  pub event : Option DemandId → Option EventSource
  pub message : Option DemandId → Payload

-- the course of the turn at place t after one more entry, at a place
abbrev pub advanced : SceneParts → Beginnings → ℕ → EntryKind → ℕ → Option Course → Option Course
advanced s b place (Begin lane demand opening agent) t c =
    if place == t then Some (record { agent = agent; safe = is_safe s agent opening; event = b.event demand; frame = first_frame opening (b.vars agent) (b.message demand) }) else c
advanced s b place (Act turn effect answer) t c =
    if turn.0 == t then option_map (answer_to s answer) c else c
advanced s b place other t c = c

unfoldable mutual
  -- the variables of an agent: those of its last turn that isn't thread-safe and ended since its registration
  pub vars : SceneParts → List Entry → AgentId → Vars
  vars s [] a = vars_of s a
  vars s (e ∷ h) a = vars_after s (course s h) e.kind a (vars s h a)

  -- the course of the turn that began at a place: its frame is moved by the turn's own acts
  pub course : SceneParts → List Entry → ℕ → Option Course
  course s [] t = None
  course s (e ∷ h) t = advanced s (record { vars = vars s h; event = event_of s h; message = message_of s h }) (length h) e.kind t (course s h t)
