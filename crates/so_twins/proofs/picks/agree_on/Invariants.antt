use Rattle.std.proofs.Common.{◌≡◌, length}
use Rattle.so_scene.specs.Lanes.{keys}
use Rattle.so_queue.specs.Queues.{keys_of}
use Rattle.so_twins.proofs.picks.agree_on.Given as goal

abbrev pub invariant-loop-place : goal.invariant-loop-place
invariant-loop-place l = (keys_of l.queues ≡ keys l.fn.scene) × (length l.prio ≡ length l.fn.scene.dispatchers)
