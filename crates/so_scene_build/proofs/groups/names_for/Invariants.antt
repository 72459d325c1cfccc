use Rattle.std.proofs.Common.{◌≡◌, take}
use Rattle.so_scene_build.specs.Groups.{names_for}
use Rattle.so_scene_build.proofs.groups.names_for.Given as goal

abbrev pub invariant-loop-group : goal.invariant-loop-group
invariant-loop-group l = l.names ≡ names_for l.disp (take l.group-index l.groups)
