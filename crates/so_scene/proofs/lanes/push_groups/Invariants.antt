use Rattle.std.proofs.Common.{◌≡◌, ◌++◌}
use Rattle.so_lists.specs.Lists.{each_below}
use Rattle.so_scene.specs.Lanes.{group_lane}
use Rattle.so_scene.proofs.lanes.push_groups.Given as goal

abbrev pub invariant-loop-k : goal.invariant-loop-k
invariant-loop-k l = l.lanes.items ≡ l.initial.lanes.items ++ each_below (group_lane l.fn.disp) l.k
