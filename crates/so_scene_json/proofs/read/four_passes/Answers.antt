use Rattle.serde_json.specs.View.{view}
use Rattle.so_scene_json.proofs.Built.{is_built}
use Rattle.so_scene_json.proofs.read.four_passes.Goals as goal

pub finish-requires : goal.finish-requires
finish-requires c = is_built (view c.args.value.now) _ _ _ _ c.requires c.in_ok-_shape.ensures c.in_ok-names.ensures c.in_ok-known.ensures c.in_ok-parts.ensures
