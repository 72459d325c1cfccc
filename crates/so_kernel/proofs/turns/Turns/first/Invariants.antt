use Rattle.so_kernel.specs.Held.{NoneBelow}
use Rattle.so_kernel.proofs.turns.Turns.first.Given as goal

abbrev pub invariant-loop-lane : goal.invariant-loop-lane
invariant-loop-lane l = NoneBelow l.self l.lane
