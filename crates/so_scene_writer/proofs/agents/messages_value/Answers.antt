use Rattle.std.proofs.Common.{ap, [], ◌∙◌}
use Rattle.serde_json.specs.Data.{array}
use Rattle.serde_json.specs.View.{items_of}
use Rattle.serde_json.proofs.Views.{view-Array}
use Rattle.so_scene_data.specs.Canonical.{message_data}
use Rattle.so_scene_writer.proofs.Listed.{shown_more, shown_all}
use Rattle.so_scene_writer.proofs.agents.messages_value.Goals as goal

pub loop-message-preserved : goal.loop-message-preserved
loop-message-preserved c = shown_more message_data [] _ _ _ _ _ _ _ c.loop-message-test.true c.message-item.is c.loop-message.invariant c.in_ok-message_value.ensures c.in_ok-push.ensures.items

pub returns : goal.returns
returns c = view-Array c.loop-message.list ∙ ap (λ ds. array (items_of ds)) (shown_all message_data [] c.loop-message.list.items c.args.messages.now c.loop-message.message-index c.loop-message-test.false c.loop-message.invariant)
