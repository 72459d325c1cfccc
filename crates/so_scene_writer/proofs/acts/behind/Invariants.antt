use Rattle.std.proofs.Common.{◌≡◌, drop}
use Rattle.so_scene_data.specs.Sources.{behind}
use Rattle.so_scene_writer.proofs.acts.behind.Given as goal

abbrev pub invariant-loop-at : goal.invariant-loop-at
invariant-loop-at l = behind (drop l.at l.code) ≡ behind l.code
