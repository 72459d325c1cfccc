use Rattle.std.proofs.Common.{ap, [], ◌∙◌}
use Rattle.serde_json.specs.Data.{array}
use Rattle.serde_json.specs.View.{items_of}
use Rattle.serde_json.proofs.Views.{view-Array}
use Rattle.so_scene_data.specs.Canonical.{coop_data}
use Rattle.so_scene_writer.proofs.Listed.{shown_more, shown_all}
use Rattle.so_scene_writer.proofs.coops.coops_value.Goals as goal

pub loop-coop-preserved : goal.loop-coop-preserved
loop-coop-preserved c = shown_more (coop_data c.args.scene.now) [] _ _ _ _ _ _ _ c.loop-coop-test.true c.coop-item.is c.loop-coop.invariant c.in_ok-coop_value.ensures c.in_ok-push.ensures.items

pub returns : goal.returns
returns c = view-Array c.loop-coop.list ∙ ap (λ ds. array (items_of ds)) (shown_all (coop_data c.args.scene.now) [] c.loop-coop.list.items c.args.coops.now c.loop-coop.coop-index c.loop-coop-test.false c.loop-coop.invariant)
