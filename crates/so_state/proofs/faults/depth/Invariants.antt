use Rattle.std.proofs.Common.{◌≡◌, ◌+◌, ◌-◌, ◌≤◌, length}
use Rattle.so_state.specs.States.{depth, ancestors_within}
use Rattle.so_state.proofs.faults.depth.Given as goal

abbrev pub invariant-loop-step : goal.invariant-loop-step
invariant-loop-step l =
    (l.depth ≤ l._step + 1)
    × (depth l.states l.fn.s ≡ l.depth + length (ancestors_within (length l.states - l._step) l.states l.at))
