-- The turns that are in hand, and a row of picks.
use Rattle.std.specs.Prelude.{◌≡◌, ℕ, ◌<◌, ◌≤◌, List, [], ◌∷◌, length, true, false, Option, Some, None, is_some, slice_index_or, slice_set}
use Rattle.std.specs.Option.{option_map}
use Rattle.so_code.specs.declared.effect.Move.{Move}
use Rattle.so_code.specs.declared.frame.Frame.{Frame}
use Rattle.so_code.specs.Machine.{after}
use Rattle.so_scene.specs.declared.parts.SceneParts.{SceneParts}
use Rattle.so_scene.specs.Parts.{code_of}
use Rattle.so_scene.specs.Lanes.{lanes}
use Rattle.so_history.specs.declared.entry.Entry.{Entry}
use Rattle.so_history.specs.declared.entry.Pick.{Pick}
use Rattle.so_history.specs.Turns.{running_at, lane_number}
use Rattle.so_history.specs.Steps.{entry_of}
use Rattle.so_history.specs.Coops.{aborted}
use Rattle.so_history.specs.Chain.{signed, step_of}
use Rattle.so_ledger.specs.Shapes.{Core}
use Rattle.so_kernel.specs.Hands.{IsHeld}
use Rattle.so_ledger.specs.Gates.{gated, core_after}
use Rattle.so_kernel.specs.declared.answers.Turn.{Turn}
use Rattle.so_kernel.specs.declared.answers.Stepped.{Stepped}
use Rattle.so_kernel.specs.declared.answers.Stepped.TheVariants as stepped_answer
use Rattle.so_kernel.specs.declared.answers.Acted.{Acted}
use Rattle.so_kernel.specs.declared.answers.Acted.TheVariants as acted_answer
use Rattle.so_kernel.specs.declared.answers.Ended.{Ended}
use Rattle.so_kernel.specs.declared.answers.Ended.TheVariants as ended_answer
use Rattle.so_kernel.specs.declared.answers.Turned.{Turned}
use Rattle.so_kernel.specs.declared.answers.Turned.TheVariants as turned_answer
use Rattle.so_kernel.specs.Answers.{step_answers}

-- no turn is in hand below a lane
abbrev pub NoneBelow : List (Option Turn) → ℕ → Type 0
NoneBelow ts n = (l : ℕ) → l < n → slice_index_or ts l None ≡ None

-- the first turn in hand is that of a lane
pub record IsFirstHeld (ts : List (Option Turn)) (n lane : ℕ) : Type 0 where
  pub in_range : lane < n
  pub holds : is_some (slice_index_or ts lane None) ≡ true
  pub none_before : NoneBelow ts lane

-- each turn in hand is that of a lane from one on and below another
abbrev pub AreWithin : ℕ → ℕ → List (Option Turn) → Type 0
AreWithin from below ts = (l : ℕ) → is_some (slice_index_or ts l None) ≡ true → (from ≤ l) × (l < below)

-- the lane's running turn is in hand, or none runs there. After an abort a turn may run that nobody has
abbrev pub IsLaneHeld : SceneParts → List Entry → ℕ → Option Turn → Type 0
IsLaneHeld s h lane None = aborted h ≡ false → running_at lane_number h lane ≡ []
IsLaneHeld s h lane (Some t) = IsHeld s h t × (t.lane.0 ≡ lane)

-- the turns in hand are the running turns, by lane
pub record AreHeld (k : Core) (ts : List (Option Turn)) : Type 0 where
  pub size : length ts ≡ lanes k.scene
  pub each : (lane : ℕ) → lane < lanes k.scene → IsLaneHeld k.scene k.history lane (slice_index_or ts lane None)

-- the entry of a turn's next move
abbrev pub turn_move : SceneParts → List Entry → Turn → Option Entry
turn_move s h t = option_map (signed t.by) (entry_of s h t.agent t.event t.begun.0 (after (code_of s t.agent) t.frame).0)

-- the kernel after these picks
abbrev pub played : Core → List Pick → Core
played k [] = k
played k (p ∷ ps) = played (core_after k (gated k (step_of k.scene k.history p))) ps

-- a turn with this frame before its move has made the move
abbrev pub Moves : Core → Turn → Frame → Move → Type 0
Moves k t before move = after (code_of k.scene t.agent) before ≡ (move, t.frame)

-- what a step with this entry comes to: its answer, the kernel after it, and the turns in hand
pub record HasStepped (k : Core) (next : Option Entry) (said : Stepped) (l : Core) (ts : List (Option Turn)) : Type 0 where
  pub answer : said ≡ step_answers (gated k next)
  pub after : l ≡ core_after k (gated k next)
  pub held : AreHeld l ts

-- a step by what its end or failure answered, and the turn that is left: as it was before its move, or none where it is over
abbrev pub stepped_by_end : Ended → Stepped
stepped_by_end ended_answer.Done = stepped_answer.Added
stepped_by_end ended_answer.Aborted = stepped_answer.Aborted
stepped_by_end ended_answer.Full = stepped_answer.Full
stepped_by_end ended_answer.Over = stepped_answer.Over

abbrev pub left_by_end : Ended → Frame → Turn → Option Turn
left_by_end ended_answer.Done before t = None
left_by_end ended_answer.Aborted before t = None
left_by_end other before t = Some (record t { frame = before })

-- a step by what its act answered, and the turn, as it was before its move where it didn't go
abbrev pub stepped_by_act : Acted → Stepped
stepped_by_act acted_answer.Went = stepped_answer.Added
stepped_by_act acted_answer.Full = stepped_answer.Full
stepped_by_act acted_answer.Over = stepped_answer.Over

abbrev pub turn_kept : Acted → Frame → Turn → Turn
turn_kept acted_answer.Went before t = t
turn_kept other before t = record t { frame = before }

-- what the step of a turn answers, and the turn that is left of it
abbrev pub said : Turned → Stepped
said (turned_answer.On answer) = answer
said (turned_answer.Over answer) = answer

abbrev pub left : Turned → Turn → Option Turn
left (turned_answer.On answer) t = Some t
left (turned_answer.Over answer) t = None

-- the turns in hand without the lane's, where it is over
abbrev pub turns_left : Turned → ℕ → List (Option Turn) → List (Option Turn)
turns_left (turned_answer.On answer) lane ts = ts
turns_left (turned_answer.Over answer) lane ts = slice_set ts lane None

-- what a step of a lane's turn comes to, whatever other turns are in hand
abbrev pub HasTurned : Core → ℕ → Turn → Stepped → Core → Option Turn → Type 0
HasTurned k lane t answer l rest = (ts : List (Option Turn)) → AreHeld k (slice_set ts lane (Some t)) → HasStepped k (turn_move k.scene k.history t) answer l (slice_set ts lane rest)

-- the lane's turn, where it has one, made its step in its place
abbrev pub HasAdvanced : Core → List (Option Turn) → ℕ → Option Turn → Option Turned → Core → List (Option Turn) → Type 0
HasAdvanced k ts lane None None l new = (l ≡ k) × (new ≡ ts)
HasAdvanced k ts lane (Some t) (Some turned) l new = (u : Turn) × (new ≡ slice_set ts lane (Some u)) × HasTurned k lane t (said turned) l (left turned u)
HasAdvanced k ts lane x y l new = ⊥
