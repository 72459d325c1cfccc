use Rattle.std.proofs.Common.{◌+◌, ◌*◌, ◌-◌, ◌/◌, ◌<◌, ◌≤◌, arith}
use Rattle.so_timer.specs.Heap.{rank_at}
use Rattle.so_timer.proofs.HeapLaws.{raising_more}
use Rattle.so_timer.proofs.heap.sift_up.Goals as goal

pub loop-at-preserved : goal.loop-at-preserved
loop-at-preserved c =
    let lt : rank_at c.loop-at.heap c.loop-at.at < rank_at c.loop-at.heap ((c.loop-at.at - 1) / 2) = grind arith in
    let first : 2 * ((c.loop-at.at - 1) / 2) + 1 ≤ c.loop-at.at = omega arith in
    let last : c.loop-at.at ≤ 2 * ((c.loop-at.at - 1) / 2) + 2 = omega arith in
    raising_more c.args.heap.now c.loop-at.heap c.exchange.new.heap c.loop-at.places c.exchange.new.places c.loop-at.at ((c.loop-at.at - 1) / 2) c.loop-at.invariant
    (record { first = first; last = last }) lt c.exchange.ensures.heap c.exchange.ensures.placed
