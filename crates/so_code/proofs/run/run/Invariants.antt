use Rattle.so_code.proofs.MoveLaws.{IsOnItsWay}
use Rattle.so_code.proofs.run.run.Given as goal

abbrev pub invariant-loop-step : goal.invariant-loop-step
invariant-loop-step l = IsOnItsWay l.code l.initial.frame l._step l.frame
