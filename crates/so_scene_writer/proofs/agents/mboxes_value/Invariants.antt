use Rattle.std.proofs.Common.{◌≡◌, map, take}
use Rattle.serde_json.specs.View.{view}
use Rattle.so_scene_data.specs.ActData.{text_data}
use Rattle.so_scene_writer.proofs.agents.mboxes_value.Given as goal

abbrev pub invariant-loop-mbox : goal.invariant-loop-mbox
invariant-loop-mbox l = map view l.list.items ≡ map text_data (take l.mbox-index l.mboxes)
