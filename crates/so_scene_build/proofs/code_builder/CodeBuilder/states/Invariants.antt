use Rattle.std.proofs.Common.{◌≡◌, ◌+◌, drop}
use Rattle.serde_json.specs.View.{items_view}
use Rattle.so_scene_build.specs.Build.{states_written}
use Rattle.so_scene_build.proofs.code_builder.CodeBuilder.states.Given as goal

abbrev pub invariant-loop-i : goal.invariant-loop-i
invariant-loop-i l = states_written l.names 1 l.initial.self (items_view l.list) ≡ states_written l.names (l.i + 1) l.self (items_view (drop l.i l.list))
