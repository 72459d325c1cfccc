use Rattle.std.proofs.Common.{◌≡◌, ◌≤◌, take, length}
use Rattle.std.specs.Prelude.{filter, not}
use Rattle.so_state.specs.States.{is_on}
use Rattle.so_state.proofs.list.outside.Given as goal

abbrev pub invariant-loop-s : goal.invariant-loop-s
invariant-loop-s l =
    (l.rest ≡ filter (λ s. not (is_on l.other s)) (take l.s-index l.list)) × (length l.rest ≤ l.s-index)
