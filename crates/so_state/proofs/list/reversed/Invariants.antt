use Rattle.std.proofs.Common.{◌≡◌, ◌-◌, drop, length}
use Rattle.std.specs.Prelude.{reverse}
use Rattle.so_state.proofs.list.reversed.Given as goal

abbrev pub invariant-loop-index : goal.invariant-loop-index
invariant-loop-index l =
    (l.back ≡ reverse (drop (length l.list - l.index) l.list)) × (length l.back ≡ l.index)
