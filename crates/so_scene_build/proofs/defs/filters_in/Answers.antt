use Rattle.std.proofs.Common.{sym}
use Rattle.so_scene_build.specs.Defs.{filter_of}
use Rattle.so_scene_fields.proofs.Ends.{taken_all}
use Rattle.so_scene_build.proofs.defs.filters_in.Goals as goal

pub returns : goal.returns
returns c = sym (taken_all (filter_of c.args.names.now) _ _ _ c.loop-value-test.false c.loop-value.invariant)
