use Rattle.std.proofs.Common.{ap, [], ◌∙◌}
use Rattle.serde_json.specs.Data.{array}
use Rattle.serde_json.specs.View.{items_of}
use Rattle.serde_json.proofs.Views.{view-Array}
use Rattle.so_scene_data.specs.Canonical.{filter_data}
use Rattle.so_scene_writer.proofs.Listed.{shown_more, shown_all}
use Rattle.so_scene_writer.proofs.agents.filters_value.Goals as goal

pub loop-filter-preserved : goal.loop-filter-preserved
loop-filter-preserved c = shown_more (filter_data c.args.scene.now) [] _ _ _ _ _ _ _ c.loop-filter-test.true c.filter-item.is c.loop-filter.invariant c.in_ok-filter_value.ensures c.in_ok-push.ensures.items

pub returns : goal.returns
returns c = view-Array c.loop-filter.list ∙ ap (λ ds. array (items_of ds)) (shown_all (filter_data c.args.scene.now) [] c.loop-filter.list.items c.args.filters.now c.loop-filter.filter-index c.loop-filter-test.false c.loop-filter.invariant)
