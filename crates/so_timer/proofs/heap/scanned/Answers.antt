use Rattle.so_timer.specs.Heap.{due_at}
use Rattle.std.proofs.Common.{refl}
use Rattle.so_timer.proofs.EarliestLaws.{earliest_step}
use Rattle.so_timer.proofs.heap.scanned.Goals as goal

pub loop-due-preserved : goal.loop-due-preserved
loop-due-preserved c =
    earliest_step c.args.heap.now c.loop-due.due-index c.args.after (due_at c.args.heap.now c.loop-due.due-index).deadline c.loop-due.best c.nearer-best.result refl c.nearer-best.ensures c.loop-due.invariant
