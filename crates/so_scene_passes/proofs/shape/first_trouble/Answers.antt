use Rattle.std.proofs.Common.{sym, ◌∙◌}
use Rattle.so_scene_passes.specs.Shape.{item_trouble}
use Rattle.so_scene_passes.proofs.Shapes.{first_stop, first_go, first_end}
use Rattle.so_scene_passes.proofs.shape.first_trouble.Goals as goal

pub returns-in-Some : goal.returns-in-Some
returns-in-Some c = first_stop _ (item_trouble c.args.kind) _ _ _ _ _ c.loop-value-test.true c.value-item.is c.loop-value.invariant (sym c.item.ensures ∙ c.in-Some.is)

pub loop-value-preserved : goal.loop-value-preserved
loop-value-preserved c = first_go _ (item_trouble c.args.kind) _ _ _ _ c.loop-value-test.true c.value-item.is c.loop-value.invariant (sym c.item.ensures ∙ c.in-None.is)

pub returns : goal.returns
returns c = first_end _ (item_trouble c.args.kind) _ _ c.loop-value-test.false c.loop-value.invariant
