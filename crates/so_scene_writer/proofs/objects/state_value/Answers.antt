use Rattle.std.proofs.Common.{option_map, ap, ◌∙◌}
use Rattle.serde_json.specs.View.{view}
use Rattle.so_scene_data.specs.ActData.{acts_data}
use Rattle.so_scene_data.specs.Sources.{acts_in}
use Rattle.so_scene_data.specs.Fields.{state_base}
use Rattle.so_scene_writer.proofs.Joined.{if_ok, state_joined}
use Rattle.so_scene_writer.proofs.objects.state_value.Goals as goal

pub returns : goal.returns
returns c =
    if_ok _ _ c.with_field.result c.with_field.ensures
    (λ v e. state_joined c.args.scene.now c.args.agent.now c.args.name.now c.args.state c.args.code.now (option_map view c.in_ok-parent_value.field-0) (view c.in_ok-enter.enter) (view c.in_ok-exit.exit) (view c.in_ok-value.value) (view v)
    c.in_ok-parent_value.ensures c.in_ok-enter.ensures (c.in_ok-exit.ensures ∙ ap (λ code. acts_data c.args.scene.now c.args.agent.now (acts_in code)) c.behind.ensures) (c.in_ok-value.ensures ∙ ap (λ name. state_base (view c.in_ok-enter.enter) (view c.in_ok-exit.exit) c.args.state.history c.args.state.initial name) c.bytes.ensures.value) e)
