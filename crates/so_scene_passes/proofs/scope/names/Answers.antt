use Rattle.std.proofs.Common.{sym}
use Rattle.so_scene_fields.specs.Values.{name_in}
use Rattle.so_scene_fields.proofs.Ends.{taken_all}
use Rattle.so_scene_passes.proofs.scope.names.Goals as goal

pub returns : goal.returns
returns c = sym (taken_all name_in _ _ _ c.loop-value-test.false c.loop-value.invariant)
