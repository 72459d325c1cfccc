use Rattle.std.proofs.Common.{◌≡◌, Err}
use Rattle.so_ledger.specs.Gates.{gated}
use Rattle.so_kernel.specs.Held.{AreHeld}
use Rattle.so_ledger.specs.declared.gate.Barred.TheVariants.{Nothing}
use Rattle.so_env.specs.Runs.{lanes_entry}
use Rattle.so_env.proofs.first.step_lanes.Given as goal

abbrev pub invariant-loop-lane : goal.invariant-loop-lane
invariant-loop-lane l =
    (l.kernel ≡ l.fn.kernel) × (AreHeld l.kernel l.turns) × (gated l.kernel (lanes_entry l.kernel l.lane) ≡ Err Nothing)
