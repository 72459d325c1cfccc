use Rattle.std.proofs.Common.{arith}
use Rattle.so_timer.proofs.ScanLaws.{none_armed}
use Rattle.so_timer.proofs.plain.empty.Goals as goal

pub returns : goal.returns
returns c = none_armed 0 c.loop-slot.slots (λ k l. c.loop-slot.invariant k (omega arith))
