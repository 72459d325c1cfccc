use Rattle.std.proofs.Common.{◌≡◌, drop}
use Rattle.serde_json.specs.View.{items_view}
use Rattle.so_scene_build.specs.CodeBuilder.{acts_written}
use Rattle.so_scene_build.proofs.code_builder.CodeBuilder.acts.Given as goal

abbrev pub invariant-loop-i : goal.invariant-loop-i
invariant-loop-i l = acts_written l.names l.allowed l.initial.self (items_view l.list) ≡ acts_written l.names l.allowed l.self (items_view (drop l.i l.list))
