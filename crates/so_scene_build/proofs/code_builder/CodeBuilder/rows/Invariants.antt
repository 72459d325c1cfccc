use Rattle.std.proofs.Common.{◌≡◌, drop}
use Rattle.serde_json.specs.View.{items_view}
use Rattle.so_scene_build.specs.Build.{rows_written}
use Rattle.so_scene_build.proofs.code_builder.CodeBuilder.rows.Given as goal

abbrev pub invariant-loop-i : goal.invariant-loop-i
invariant-loop-i l = rows_written l.names 0 l.initial.self (items_view l.list) ≡ rows_written l.names l.i l.self (items_view (drop l.i l.list))
