use Rattle.std.proofs.Common.{◌≡◌}
use Rattle.so_lists.specs.Lists.{each_below}
use Rattle.so_scene.specs.Lanes.{first_place}
use Rattle.so_scene.proofs.lanes.keys_of.Given as goal

abbrev pub invariant-loop-agent : goal.invariant-loop-agent
invariant-loop-agent l = l.keys.items ≡ each_below (first_place l.fn.queues) l.agent
