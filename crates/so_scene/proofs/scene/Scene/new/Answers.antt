use Rattle.so_scene.proofs.LaneLaws.{bound}
use Rattle.so_scene.proofs.scene.Scene.new.Goals as goal

pub of-requires : goal.of-requires
of-requires c = bound c.args.parts c.requires
