use Rattle.std.proofs.Common.{option_map}
use Rattle.serde_json.specs.View.{view}
use Rattle.so_scene_data.specs.Sources.{row_source}
use Rattle.so_scene_writer.proofs.Joined.{if_ok, row_joined}
use Rattle.so_scene_writer.proofs.objects.row_value.Goals as goal

pub returns : goal.returns
returns c =
    if_ok _ _ c.with_field-7.result c.with_field-7.ensures
    (λ v e. row_joined c.args.scene.now c.args.agent.now (row_source c.args.id.now c.args.row c.args.code.now) (option_map view c.dead_value.result) (option_map view c.in_ok-do_value.field-0) (option_map view c.in_ok-id_value.field-0) (option_map view c.in_ok-row_state_value.field-0)
    (option_map view c.suppress_value.result) (option_map view c.in_ok-switch_value.field-0) (option_map view c.in_ok-transfer_value.field-0)
    (view c.in_ok-value.value) (view c.in_ok-value-2.value) (view c.in_ok-value-3.value) (view c.in_ok-value-4.value) (view c.in_ok-value-5.value) (view c.in_ok-value-6.value) (view c.in_ok-value-7.value) (view v)
    c.in_ok-value.ensures c.dead_value.ensures c.in_ok-value-2.ensures c.in_ok-do_value.ensures c.in_ok-value-3.ensures c.in_ok-id_value.ensures c.in_ok-value-4.ensures c.in_ok-row_state_value.ensures c.in_ok-value-5.ensures
    c.suppress_value.ensures c.in_ok-value-6.ensures c.in_ok-switch_value.ensures c.in_ok-value-7.ensures c.in_ok-transfer_value.ensures e)
