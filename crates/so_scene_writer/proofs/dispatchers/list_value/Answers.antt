use Rattle.std.proofs.Common.{ap, [], ◌∙◌}
use Rattle.serde_json.specs.Data.{array}
use Rattle.serde_json.specs.View.{items_of}
use Rattle.serde_json.proofs.Views.{view-Array}
use Rattle.so_scene_data.specs.Canonical.{disp_data}
use Rattle.so_scene_writer.proofs.Listed.{shown_more, shown_all}
use Rattle.so_scene_writer.proofs.dispatchers.list_value.Goals as goal

pub loop-disp-preserved : goal.loop-disp-preserved
loop-disp-preserved c = shown_more disp_data [] _ _ _ _ _ _ _ c.loop-disp-test.true c.disp-item.is c.loop-disp.invariant c.in_ok-disp_value.ensures c.in_ok-push.ensures.items

pub returns : goal.returns
returns c = view-Array c.loop-disp.list ∙ ap (λ ds. array (items_of ds)) (shown_all disp_data [] c.loop-disp.list.items c.args.disps.now c.loop-disp.disp-index c.loop-disp-test.false c.loop-disp.invariant)
