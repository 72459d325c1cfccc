use Rattle.std.proofs.Common.{ap, refl, ◌∙◌, map}
use Rattle.serde_json.specs.Data.{array}
use Rattle.serde_json.specs.View.{view, items_of}
use Rattle.serde_json.proofs.Views.{view-Array}
use Rattle.so_scene_data.specs.ActData.{operand_data}
use Rattle.so_scene_writer.proofs.Listed.{shown_more, shown_all}
use Rattle.so_scene_writer.proofs.acts.with_operands.Goals as goal

pub loop-operand-preserved : goal.loop-operand-preserved
loop-operand-preserved c = shown_more operand_data (map view c.args.list.items) _ _ _ _ _ _ _ c.loop-operand-test.true refl c.loop-operand.invariant c.in_ok-operand_value.ensures c.in_ok-push.ensures.items

pub returns : goal.returns
returns c = view-Array c.loop-operand.list ∙ ap (λ ds. array (items_of ds)) (shown_all operand_data (map view c.args.list.items) c.loop-operand.list.items c.args.operands.now c.loop-operand.operand-index c.loop-operand-test.false c.loop-operand.invariant)
