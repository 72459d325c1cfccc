use Rattle.std.proofs.Common.{◌≡◌, map, take}
use Rattle.serde_json.specs.View.{view}
use Rattle.so_scene_data.specs.Canonical.{message_data}
use Rattle.so_scene_writer.proofs.agents.messages_value.Given as goal

abbrev pub invariant-loop-message : goal.invariant-loop-message
invariant-loop-message l = map view l.list.items ≡ map message_data (take l.message-index l.messages)
