-- The turns that steps hand out and are given.
use Rattle.std.specs.Prelude.{◌≡◌, List, Bool, true, false, Result, Ok, Err, Some, unwrap_or}
use Rattle.so_ids.specs.declared.PartyId.{PartyId}
use Rattle.so_ids.specs.declared.LaneId.{LaneId}
use Rattle.so_code.specs.declared.effect.Effect.{Effect}
use Rattle.so_code.specs.declared.effect.Move.{Move}
use Rattle.so_code.specs.declared.effect.FailKind.{FailKind}
use Rattle.so_code.specs.declared.frame.Frame.{Frame}
use Rattle.so_code.specs.declared.effect.Answer.{Answer}
use Rattle.so_code.specs.declared.effect.Answer.TheVariants.{Okay}
use Rattle.so_code.specs.Machine.{after}
use Rattle.so_code.specs.Answers.{answered}
use Rattle.so_scene.specs.declared.parts.SceneParts.{SceneParts}
use Rattle.so_scene.specs.Parts.{code_of}
use Rattle.so_scene.specs.Lanes.{key_of}
use Rattle.so_history.specs.declared.entry.Entry.{Entry}
use Rattle.so_history.specs.declared.entry.EntryKind.{EntryKind}
use Rattle.so_history.specs.declared.entry.EntryKind.TheVariants.{Skip, Act, End, Abort}
use Rattle.so_history.specs.declared.entry.AbortCause.TheVariants.{Exception}
use Rattle.so_history.specs.Turns.{Started, turn_at, course}
use Rattle.so_history.specs.Finishing.{finishes}
use Rattle.so_history.specs.Steps.{answer_of}
use Rattle.so_tables.specs.declared.found.FoundTurn.{FoundTurn}
use Rattle.so_ledger.specs.Shapes.{Core}
use Rattle.so_ledger.specs.declared.gate.Barred.{Barred}
use Rattle.so_kernel.specs.declared.answers.Begun.{Begun}
use Rattle.so_kernel.specs.declared.answers.Begun.TheVariants as begun_answer
use Rattle.so_kernel.specs.declared.answers.Turn.{Turn}
use Rattle.so_kernel.specs.Answers.{begin_answers}

-- a turn that is held is running, is thread-safe and finishes its agent as it began, and has the frame that the history gives
pub record IsHeld (s : SceneParts) (h : List Entry) (t : Turn) : Type 0 where
  pub turn : Started
  pub runs : turn_at h t.begun.0 ≡ Some turn
  pub by : turn.by ≡ t.by
  pub lane : turn.lane ≡ t.lane
  pub finishes : finishes turn ≡ t.finishes
  pub course : course s h t.begun.0 ≡ Some (record { agent = t.agent; safe = t.safe; event = t.event; frame = t.frame })

-- a turn that has made this move: its frame is the one after the move
pub record HasMoved (s : SceneParts) (h : List Entry) (t : Turn) (move : Move) : Type 0 where
  pub before : Frame
  pub held : IsHeld s h (record t { frame = before })
  pub moves : after (code_of s t.agent) before ≡ (move, t.frame)

-- the demand that was taken begins no turn
abbrev pub is_skip : EntryKind → Bool
is_skip (Skip lane demand why) = true
is_skip other = false

-- what a begin answers: a turn that is held, that the demand was skipped, or why nothing was taken
abbrev pub IsBegun : Core → PartyId → LaneId → Result Entry Barred → Begun → Type 0
IsBegun k by lane (Ok e) (begun_answer.Turn t) = (is_skip e.kind ≡ false) × IsHeld k.scene k.history t × (t.by ≡ by) × (t.lane ≡ lane)
IsBegun k by lane (Ok e) begun_answer.Skipped = is_skip e.kind ≡ true
IsBegun k by lane (Ok e) _ = ⊥
IsBegun k by lane (Err why) r = r ≡ begin_answers (Err why)

-- the answer to an effect, which has one where its turn moved
abbrev pub answer_for : Core → Turn → Effect → Answer
answer_for k t effect = unwrap_or (answer_of k.scene k.history t.agent t.event effect) Okay

abbrev pub act_entry : Core → Turn → Effect → Entry
act_entry k t effect = record { by = t.by; kind = Act t.begun effect (answer_for k t effect) }

-- an act that went gives the frame its answer
abbrev pub turn_after : Core → Result Entry Barred → Turn → Effect → Turn
turn_after k (Ok e) t effect = record t { frame = answered (answer_for k t effect) t.frame }
turn_after k (Err why) t effect = t

abbrev pub end_entry : Turn → Entry
end_entry t = record { by = t.by; kind = End t.begun }

abbrev pub fail_entry : Turn → FailKind → Entry
fail_entry t kind = record { by = t.by; kind = Abort (Exception t.begun kind) }

-- what a step finds of it
abbrev pub found_turn : SceneParts → Turn → FoundTurn
found_turn s t = record { agent = t.agent; lane = t.lane; key = key_of s t.agent; safe = t.safe; finishes = t.finishes; vars = t.frame.vars }
