use Rattle.std.proofs.Common.{option_map}
use Rattle.serde_json.specs.View.{view}
use Rattle.so_scene_writer.proofs.Joined.{if_ok, disp_joined}
use Rattle.so_scene_writer.proofs.dispatchers.disp_value.Goals as goal

pub returns : goal.returns
returns c =
    if_ok _ _ c.with_field-3.result c.with_field-3.ensures
    (λ v e. disp_joined c.args.disp.now (option_map view c.in_ok-fifo_value.field-0) (option_map view c.in_ok-quotes_value.field-0) (option_map view c.threads_value.result)
    (view c.in_ok-value.value) (view c.in_ok-value-2.value) (view c.in_ok-value-3.value) (view v)
    c.in_ok-value.ensures c.in_ok-fifo_value.ensures c.in_ok-value-2.ensures c.in_ok-quotes_value.ensures c.in_ok-value-3.ensures c.threads_value.ensures e)
