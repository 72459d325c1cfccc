use Rattle.so_scene_passes.specs.Shape.{quote_trouble}
use Rattle.so_scene_passes.proofs.Shapes.{fixed, not_fixed}
use Rattle.so_scene_passes.proofs.shape.quote_list.Goals as goal

pub returns-then-list-eq8 : goal.returns-then-list-eq8
returns-then-list-eq8 c = fixed 8 quote_trouble _ _ c.if-list-eq8.true c.first_trouble.ensures

pub returns-else-list-eq8 : goal.returns-else-list-eq8
returns-else-list-eq8 c = not_fixed 8 quote_trouble _ c.if-list-eq8.false
