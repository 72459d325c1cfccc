use Rattle.std.proofs.Common.{ap, [], ◌∙◌}
use Rattle.serde_json.specs.Data.{array, string}
use Rattle.serde_json.specs.View.{items_of}
use Rattle.serde_json.proofs.Views.{view-Array}
use Rattle.so_scene_data.specs.ActData.{text_data}
use Rattle.so_scene_data.specs.ActData.{shown}
use Rattle.so_scene_writer.proofs.Listed.{shown_more, shown_all}
use Rattle.so_scene_writer.proofs.agents.mboxes_value.Goals as goal

pub loop-mbox-preserved : goal.loop-mbox-preserved
loop-mbox-preserved c = shown_more text_data [] _ _ _ _ _ _ _ c.loop-mbox-test.true c.mbox-item.is c.loop-mbox.invariant (c.in_ok-try_from_str.ensures ∙ ap string (c.text.ensures ∙ ap shown c.bytes.ensures.value)) c.in_ok-push.ensures.items

pub returns : goal.returns
returns c = view-Array c.loop-mbox.list ∙ ap (λ ds. array (items_of ds)) (shown_all text_data [] c.loop-mbox.list.items c.args.mboxes.now c.loop-mbox.mbox-index c.loop-mbox-test.false c.loop-mbox.invariant)
