use Rattle.std.proofs.Common.{◌≡◌, ◌-◌, length}
use Rattle.so_state.specs.Memory.{kept}
use Rattle.so_state.specs.Plan.{resolve_within}
use Rattle.so_state.proofs.switching.resolve.Given as goal

abbrev pub invariant-loop-step : goal.invariant-loop-step
invariant-loop-step l =
    resolve_within (length l.tree) l.tree (kept l.memory) l.fn.to ≡ resolve_within (length l.tree - l._step) l.tree (kept l.memory) l.at
