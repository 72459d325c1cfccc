use Rattle.std.proofs.lemmas.Bool.{true≢false}
use Rattle.so_scene_build.proofs.defs.default_name.Goals as goal

pub unreachable-requires : goal.unreachable-requires
unreachable-requires c = true≢false c.in-None.ensures.none
