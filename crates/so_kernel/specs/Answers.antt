-- What steps answer, by what the gate says.
use Rattle.std.specs.Prelude.{ℕ, Result, Ok, Err}
use Rattle.so_history.specs.declared.entry.Entry.{Entry}
use Rattle.so_history.specs.declared.entry.EntryKind.{EntryKind}
use Rattle.so_history.specs.declared.entry.EntryKind.TheVariants.{Abort}
use Rattle.so_ledger.specs.declared.gate.Barred.{Barred}
use Rattle.so_ledger.specs.declared.gate.Barred.TheVariants.{Nothing, Full, Over}
use Rattle.so_kernel.specs.declared.answers.Stepped.{Stepped}
use Rattle.so_kernel.specs.declared.answers.Stepped.TheVariants as stepped_answer
use Rattle.so_kernel.specs.declared.answers.Begun.{Begun}
use Rattle.so_kernel.specs.declared.answers.Begun.TheVariants as begun_answer
use Rattle.so_kernel.specs.declared.answers.Acted.{Acted}
use Rattle.so_kernel.specs.declared.answers.Acted.TheVariants as acted_answer
use Rattle.so_kernel.specs.declared.answers.Ended.{Ended}
use Rattle.so_kernel.specs.declared.answers.Ended.TheVariants as ended_answer

abbrev pub added : EntryKind → Stepped
added (Abort cause) = stepped_answer.Aborted
added other = stepped_answer.Added

-- what a step answers
abbrev pub step_answers : Result Entry Barred → Stepped
step_answers (Ok e) = added e.kind
step_answers (Err Nothing) = stepped_answer.Nothing
step_answers (Err Full) = stepped_answer.Full
step_answers (Err Over) = stepped_answer.Over

-- how many entries a step with this answer added
abbrev pub entries : Stepped → ℕ
entries stepped_answer.Added = 1
entries stepped_answer.Aborted = 1
entries other = 0

abbrev pub begin_answers : Result Entry Barred → Begun
begin_answers (Ok e) = begun_answer.Nothing
begin_answers (Err Nothing) = begun_answer.Nothing
begin_answers (Err Full) = begun_answer.Full
begin_answers (Err Over) = begun_answer.Over

-- what an act answers
abbrev pub act_answers : Result Entry Barred → Acted
act_answers (Ok e) = acted_answer.Went
act_answers (Err Nothing) = acted_answer.Full
act_answers (Err Full) = acted_answer.Full
act_answers (Err Over) = acted_answer.Over

-- what an end answers
abbrev pub end_answers : Result Entry Barred → Ended
end_answers (Ok e) = ended_answer.Done
end_answers (Err Nothing) = ended_answer.Full
end_answers (Err Full) = ended_answer.Full
end_answers (Err Over) = ended_answer.Over

-- what a failure answers
abbrev pub fail_answers : Result Entry Barred → Ended
fail_answers (Ok e) = ended_answer.Aborted
fail_answers (Err Nothing) = ended_answer.Full
fail_answers (Err Full) = ended_answer.Full
fail_answers (Err Over) = ended_answer.Over
