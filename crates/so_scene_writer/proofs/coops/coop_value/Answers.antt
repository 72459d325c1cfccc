use Rattle.std.proofs.Common.{option_map}
use Rattle.serde_json.specs.View.{view}
use Rattle.so_scene_writer.proofs.Joined.{if_ok, coop_joined}
use Rattle.so_scene_writer.proofs.coops.coop_value.Goals as goal

pub returns : goal.returns
returns c =
    if_ok _ _ c.with_field.result c.with_field.ensures
    (λ v e. coop_joined c.args.scene.now c.args.coop.now (option_map view c.in_ok-parent_value.field-0) (view c.in_ok-value.value) (view v) c.in_ok-parent_value.ensures c.in_ok-value.ensures e)
