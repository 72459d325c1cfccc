use Rattle.std.proofs.Common.{◌∙◌, ap, arith}
use Rattle.so_queue.specs.Queues.{no_demands}
use Rattle.so_events.proofs.RoundTable.{rounds_begin}
use Rattle.so_events.proofs.TiedLaws.{tied_begins}
use Rattle.so_events.proofs.events.Events.with.Goals as goal

pub invariant_of-result : goal.invariant_of-result
invariant_of-result c = rw c.in-Ok.ensures.items (tied_begins c.args.scene.now c.in_ok-queues.queues c.args.room (c.in_ok-queues.ensures ∙ ap (λ n. no_demands n c.args.room) c.keys.ensures.value), rounds_begin c.args.scene.now c.in_ok-prio.prio c.in_ok-prio.ensures, omega (arith, c.in-Ok.ensures.capacity), c.ranges.room.fits, c.in_ok-counts.ensures)
