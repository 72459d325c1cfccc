use Rattle.serde_json.specs.View.{view}
use Rattle.so_scene_writer.proofs.Written.{text_again, written_again}
use Rattle.so_scene_writer.proofs.write.bytes_of.Goals as goal

pub returns-clause-canonical : goal.returns-clause-canonical
returns-clause-canonical c = text_again c.args.scene.now c.in_ok-bytes.bytes.items (view c.in_ok-value.value) c.in_ok-value.ensures c.in_ok-bytes.ensures.text

pub returns-clause-read_again : goal.returns-clause-read_again
returns-clause-read_again c = written_again c.args.scene.now c.in_ok-bytes.bytes.items (view c.in_ok-value.value) c.requires c.in_ok-value.ensures c.in_ok-bytes.ensures.utf8 c.in_ok-bytes.ensures.reads_back
