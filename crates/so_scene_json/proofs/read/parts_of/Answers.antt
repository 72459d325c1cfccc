use Rattle.std.proofs.Common.{sym}
use Rattle.std.proofs.lemmas.Result.{err_from_is_err_and}
use Rattle.serde_json.specs.View.{view}
use Rattle.so_scene_build.specs.Build.{build_step, no_parts}
use Rattle.so_scene_fields.proofs.Runs.{pass_fails}
use Rattle.so_scene_json.proofs.read.parts_of.Goals as goal

pub returns-in_err-object : goal.returns-in_err-object
returns-in_err-object c =
    let p = err_from_is_err_and c.from_residual-in_err-object.result c.from_residual-in_err-object.ensures.1 in
    rw (p.1, p.2) (pass_fails (Unit {0}) build_step (no_parts c.args.known.names) c.in_ok-parts.parts c.object.new.pass c.root.result (view c.args.value.now) c.in_err-object.field-0.0 (sym c.in_ok-parts.ensures) c.root.ensures c.in_err-object.ensures)
