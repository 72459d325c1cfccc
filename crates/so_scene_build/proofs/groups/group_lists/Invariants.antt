use Rattle.std.proofs.Common.{◌≡◌}
use Rattle.so_lists.specs.Lists.{each_below}
use Rattle.so_scene_build.specs.Groups.{names_at}
use Rattle.so_scene_build.proofs.groups.group_lists.Given as goal

abbrev pub invariant-loop-k : goal.invariant-loop-k
invariant-loop-k l = l.lists ≡ each_below (names_at l.groups) l.k
