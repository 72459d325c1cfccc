use Rattle.so_scene_passes.specs.Shape.{item_trouble}
use Rattle.so_scene_passes.proofs.Shapes.{within, past}
use Rattle.so_scene_passes.proofs.shape.few.Goals as goal

pub returns-then-is_within : goal.returns-then-is_within
returns-then-is_within c = within c.args.limit (item_trouble c.args.kind) _ c.is_within.result _ c.is_within.ensures c.if-is_within.true c.first_trouble.ensures

pub returns-else-is_within : goal.returns-else-is_within
returns-else-is_within c = past c.args.limit (item_trouble c.args.kind) _ c.is_within.result c.is_within.ensures c.if-is_within.false
