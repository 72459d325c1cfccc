use Rattle.std.proofs.Common.{◌≡◌, ◌++◌}
use Rattle.so_lists.specs.Lists.{each_below}
use Rattle.so_scene.specs.Lanes.{priority_lane}
use Rattle.so_scene.proofs.lanes.push_priorities.Given as goal

abbrev pub invariant-loop-k : goal.invariant-loop-k
invariant-loop-k l = l.lanes.items ≡ l.initial.lanes.items ++ each_below (priority_lane l.fn.disp) l.k
