-- What a party's step does to the run that is shared.
use Rattle.std.specs.Prelude.{◌≡◌, ◌⊎◌, List, Bool, true, false, Option, Some, None}
use Rattle.so_ids.specs.declared.PartyId.{PartyId}
use Rattle.so_scene.specs.declared.parts.SceneParts.{SceneParts}
use Rattle.so_history.specs.declared.entry.Entry.{Entry}
use Rattle.so_history.specs.Steps.{is_over}
use Rattle.so_kernel.specs.Hands.{IsHeld}
use Rattle.so_kernel.specs.declared.answers.Begun.{Begun}
use Rattle.so_kernel.specs.declared.answers.Begun.TheVariants as begun
use Rattle.so_book.specs.History.{AddsAtMostOne}
use Rattle.so_run.specs.declared.shared.Run.{Run}
use Rattle.so_run.specs.declared.shared.Line.{Line}
use Rattle.so_run.specs.Lines.{lines, line_signer}

abbrev pub lines_of : Run → List Line
lines_of r = lines r.scene r.kernel.limit r.full r.kernel.history

-- the first party whose step did not fit
abbrev pub marked_by : PartyId → Bool → Option PartyId → Option PartyId
marked_by by false full = full
marked_by by true (Some first) = Some first
marked_by by true None = Some by

-- a party's step adds at most one line, which it signs, and leaves the scene and the limit
pub record IsStepOf (by : PartyId) (r q : Run) : Type 0 where
  pub adds : AddsAtMostOne line_signer by (lines_of r) (lines_of q)
  pub scene : q.scene ≡ r.scene
  pub limit : q.kernel.limit ≡ r.kernel.limit

-- a turn that began is held, and is the party's
abbrev pub HasBegun : SceneParts → List Entry → PartyId → Begun → Type 0
HasBegun s h by (begun.Turn t) = IsHeld s h t × (t.by ≡ by)
HasBegun s h by other = Unit {0}

-- the run is over, or a step did not fit
abbrev pub HasStopped : Run → Type 0
HasStopped r = (is_over r.kernel.scene r.kernel.history ≡ true) ⊎ (r.kernel.full ≡ true)
