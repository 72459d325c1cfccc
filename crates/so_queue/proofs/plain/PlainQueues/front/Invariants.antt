use Rattle.std.proofs.Common.{◌≡◌, ◌*◌}
use Rattle.so_queue.specs.Queues.{least_to}
use Rattle.so_queue.proofs.plain.PlainQueues.front.Given as goal

abbrev pub invariant-loop-priority : goal.invariant-loop-priority
invariant-loop-priority l = l.best ≡ least_to l.priority l.self.lists (8 * l.key.0)
