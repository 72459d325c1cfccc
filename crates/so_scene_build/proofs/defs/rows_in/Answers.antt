use Rattle.std.proofs.Common.{sym}
use Rattle.so_scene_build.specs.Defs.{row_of}
use Rattle.so_scene_fields.proofs.Ends.{taken_all}
use Rattle.so_scene_build.proofs.defs.rows_in.Goals as goal

pub returns : goal.returns
returns c = sym (taken_all (row_of c.args.agent c.args.names.now c.args.scope.now) _ _ _ c.loop-value-test.false c.loop-value.invariant)
