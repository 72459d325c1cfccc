use Rattle.std.proofs.Common.{◌≡◌, ◌-◌}
use Rattle.so_scene_data.specs.Sources.{behind_states}
use Rattle.so_scene_writer.proofs.agents.behind_states.Given as goal

abbrev pub invariant-loop : goal.invariant-loop
invariant-loop l = behind_states (l.states - l.counter) l.left ≡ behind_states l.states l.code
