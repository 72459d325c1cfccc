use Rattle.std.proofs.Common.{sym}
use Rattle.so_scene_fields.specs.Values.{id_in}
use Rattle.so_scene_fields.proofs.Ends.{taken_all}
use Rattle.so_scene_passes.proofs.scope.ids.Goals as goal

pub returns : goal.returns
returns c = sym (taken_all id_in _ _ _ c.loop-value-test.false c.loop-value.invariant)
