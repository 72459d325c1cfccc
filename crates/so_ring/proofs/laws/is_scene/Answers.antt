use Rattle.so_ring.proofs.SceneLaws.{ring_is_scene}
use Rattle.so_ring.proofs.laws.is_scene.Goals as goal

-- src/laws.rt:6:1
pub returns : goal.returns
returns c = ring_is_scene
