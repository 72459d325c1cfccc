use Rattle.so_scene_again.proofs.SceneLaws.{scene_again}
use Rattle.so_scene_again.proofs.laws.reads_again.Goals as goal

pub returns : goal.returns
returns c = scene_again
