use Rattle.so_scene.specs.Words.{is_name}
use Rattle.so_scene_fields.proofs.Ends.{no_other}
use Rattle.so_scene_json.proofs.finish.mbox_list.Goals as goal

pub unreachable-requires : goal.unreachable-requires
unreachable-requires c = no_other is_name _ _ _ _ _ c.requires c.loop-name-test.true c.name-item.is c.as_str.ensures.value c.in-None.ensures.none
