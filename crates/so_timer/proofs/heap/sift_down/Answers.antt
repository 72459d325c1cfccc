use Rattle.std.proofs.Common.{◌<◌, ◌≤◌, length, arith}
use Rattle.so_timer.specs.Heap.{rank_at}
use Rattle.so_timer.proofs.HeapLaws.{lowering_more, settled_by}
use Rattle.so_timer.proofs.heap.sift_down.Goals as goal

pub loop-below-preserved : goal.loop-below-preserved
loop-below-preserved c =
    let lt : rank_at c.loop-below.heap c.in-Some.below < rank_at c.loop-below.heap c.loop-below.at = grind arith in
    lowering_more c.args.heap.now c.loop-below.heap c.exchange.new.heap c.loop-below.places c.exchange.new.places c.loop-below.at c.in-Some.below c.loop-below.invariant
    (record { below = c.in-Some.ensures.below.0; within = c.in-Some.ensures.below.1; least = c.in-Some.ensures.least }) lt c.exchange.ensures.heap c.exchange.ensures.placed

pub returns-else-is_less-clause-order : goal.returns-else-is_less-clause-order
returns-else-is_less-clause-order c =
    let le : rank_at c.loop-below.heap c.loop-below.at ≤ rank_at c.loop-below.heap c.in-Some.below = grind arith in
    settled_by (rank_at c.loop-below.heap) (length c.loop-below.heap) c.loop-below.at c.in-Some.below c.loop-below.invariant.but c.loop-below.invariant.above
    (record { below = c.in-Some.ensures.below.0; within = c.in-Some.ensures.below.1; least = c.in-Some.ensures.least }) le
