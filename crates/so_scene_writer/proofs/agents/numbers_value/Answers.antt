use Rattle.std.proofs.Common.{ap, refl, [], ◌∙◌, pos}
use Rattle.serde_json.specs.Data.{array}
use Rattle.serde_json.specs.View.{items_of}
use Rattle.serde_json.proofs.Views.{view-Array}
use Rattle.so_scene_data.specs.Canonical.{number_data}
use Rattle.so_scene_writer.proofs.Listed.{shown_more, shown_all}
use Rattle.so_scene_writer.proofs.agents.numbers_value.Goals as goal

pub loop-k-preserved : goal.loop-k-preserved
loop-k-preserved c = shown_more number_data [] _ _ _ _ (pos 0) _ _ c.loop-k-test.true refl c.loop-k.invariant c.number_at.ensures c.in_ok-push.ensures.items

pub returns : goal.returns
returns c = view-Array c.loop-k.list ∙ ap (λ ds. array (items_of ds)) (shown_all number_data [] c.loop-k.list.items c.args.numbers.now c.loop-k.k c.loop-k-test.false c.loop-k.invariant)
