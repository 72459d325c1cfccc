use Rattle.std.proofs.Common.{ap, refl, [], ◌∙◌}
use Rattle.serde_json.specs.Data.{array}
use Rattle.serde_json.specs.View.{items_of}
use Rattle.serde_json.proofs.Views.{view-Array}
use Rattle.so_scene_data.specs.ActData.{count_data}
use Rattle.so_scene_writer.proofs.Listed.{shown_more, shown_all}
use Rattle.so_scene_writer.proofs.dispatchers.counts_value.Goals as goal

pub loop-k-preserved : goal.loop-k-preserved
loop-k-preserved c = shown_more count_data [] _ _ _ _ 0 _ _ c.loop-k-test.true refl c.loop-k.invariant c.count_at.ensures c.in_ok-push.ensures.items

pub returns : goal.returns
returns c = view-Array c.loop-k.list ∙ ap (λ ds. array (items_of ds)) (shown_all count_data [] c.loop-k.list.items c.args.counts.now c.loop-k.k c.loop-k-test.false c.loop-k.invariant)
