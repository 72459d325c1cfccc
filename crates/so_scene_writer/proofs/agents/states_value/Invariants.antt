use Rattle.std.proofs.Common.{◌≡◌, ◌++◌, map, drop}
use Rattle.serde_json.specs.View.{view}
use Rattle.so_scene_data.specs.Canonical.{state_data}
use Rattle.so_scene_data.specs.Sources.{states_in}
use Rattle.so_scene_writer.proofs.agents.states_value.Given as goal

abbrev pub invariant-loop-k : goal.invariant-loop-k
invariant-loop-k l = map view l.list.items ++ map (state_data l.scene l.agent) (states_in (drop l.k l.names) (drop l.k l.states) l.left) ≡ map (state_data l.scene l.agent) (states_in l.names l.states l.code)
