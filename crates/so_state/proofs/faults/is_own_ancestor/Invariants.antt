use Rattle.std.proofs.Common.{◌≡◌, ◌-◌, length}
use Rattle.so_state.specs.States.{ancestors_within, is_on, is_below}
use Rattle.so_state.proofs.faults.is_own_ancestor.Given as goal

abbrev pub invariant-loop-step : goal.invariant-loop-step
invariant-loop-step l =
    is_below l.states l.s l.s ≡ is_on (ancestors_within (length l.states - l._step) l.states l.at) l.s
