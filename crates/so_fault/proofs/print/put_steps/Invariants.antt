use Rattle.std.proofs.Common.{◌≡◌, ◌+◌, ◌*◌, ◌≤◌, ◌++◌, take}
use Rattle.std.specs.List.{flat_map}
use Rattle.arrayvec.specs.ArrayVec.{array_vec_len}
use Rattle.so_fault.specs.Faults.{step_words}
use Rattle.so_fault.proofs.print.put_steps.Given as goal

abbrev pub invariant-loop-step : goal.invariant-loop-step
invariant-loop-step l =
    (l.buf.items ≡ l.initial.buf.items ++ flat_map step_words (take l.step-index l.steps))
    × (array_vec_len l.buf ≤ array_vec_len l.initial.buf + 14 * l.step-index)
