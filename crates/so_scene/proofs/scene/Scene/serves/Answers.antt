use Rattle.std.proofs.Common.{refl}
use Rattle.so_scene.specs.Lanes.{keys, serves}
use Rattle.so_scene.proofs.scene.Scene.serves.Goals as goal

pub queue-requires : goal.queue-requires
unfolding keys
queue-requires c = c.requires.key

pub returns : goal.returns
unfolding serves
returns c = rw (c.serves.ensures, c.lane.ensures.value, c.queue.ensures.value) refl
