use Rattle.std.proofs.Common.{◌≡◌}
use Rattle.so_lists.specs.Lists.{each_below}
use Rattle.so_scene.specs.Lanes.{queue_at}
use Rattle.so_scene.proofs.lanes.queues_of.Given as goal

abbrev pub invariant-loop-agent : goal.invariant-loop-agent
invariant-loop-agent l = l.queues.items ≡ each_below (queue_at l.fn.parts) l.agent
