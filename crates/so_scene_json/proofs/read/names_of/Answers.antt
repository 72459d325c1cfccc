use Rattle.std.proofs.lemmas.Result.{err_from_is_err_and}
use Rattle.serde_json.specs.View.{view}
use Rattle.so_scene_passes.specs.Twice.{twice_step, no_names}
use Rattle.so_scene_fields.proofs.Runs.{pass_fails}
use Rattle.so_scene_json.proofs.read.names_of.Goals as goal

pub returns-in_err-object : goal.returns-in_err-object
returns-in_err-object c =
    let p = err_from_is_err_and c.from_residual.result c.from_residual.ensures.1 in
    rw (p.1, p.2) (pass_fails (Unit {0}) twice_step no_names c.new-names.result c.object.new.pass c.root.result (view c.args.value.now) c.in_err-object.field-0.0 c.new-names.ensures c.root.ensures c.in_err-object.ensures)
