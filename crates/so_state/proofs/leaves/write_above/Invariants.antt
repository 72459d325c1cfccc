use Rattle.std.proofs.Common.{◌≡◌, Some, take, length}
use Rattle.std.specs.Prelude.{if◌then◌else◌}
use Rattle.so_ids.specs.declared.StateId.{StateId}
use Rattle.so_state.specs.States.{is_on}
use Rattle.so_state.specs.Memory.{kept}
use Rattle.so_state.proofs.leaves.write_above.Given as goal

abbrev pub invariant-loop-s : goal.invariant-loop-s
invariant-loop-s l =
    (length l.last ≡ 64)
    × ((s : StateId) → kept l.last s ≡ (if is_on (take l.s-index l.above) s then Some l.leaf else kept l.initial.last s))
