use Rattle.std.proofs.Common.{arith}
use Rattle.so_io.proofs.Pieces.{Appends-slice}
use Rattle.so_io.proofs.sink.put_all.Goals as goal

pub loop-at-preserved : goal.loop-at-preserved
loop-at-preserved g c = record {
  part = Appends-slice _ _ _ c.args.piece.now c.loop-at.at c.in_ok-count.count c.loop-at.invariant.part c.in_ok-count.ensures.bytes;
  later = omega (arith, c.loop-at.invariant.later, c.in_ok-count.ensures.cause.later);
  within = omega (arith, c.in_ok-count.ensures.count, c.loop-at-test.true);
}
