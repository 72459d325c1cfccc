use Rattle.std.proofs.Common.{◌≡◌}
use Rattle.so_queue.specs.Queues.{keys_of}
use Rattle.so_twins.proofs.queues.agree.Given as goal

abbrev pub invariant-loop-place : goal.invariant-loop-place
invariant-loop-place l = (keys_of l.queues ≡ 5) × (l.queues ≡ l.plain)
