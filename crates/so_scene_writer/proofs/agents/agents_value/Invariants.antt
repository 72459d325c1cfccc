use Rattle.std.proofs.Common.{◌≡◌, map, take}
use Rattle.serde_json.specs.View.{view}
use Rattle.so_scene_data.specs.Canonical.{agent_data}
use Rattle.so_scene_writer.proofs.agents.agents_value.Given as goal

abbrev pub invariant-loop-agent : goal.invariant-loop-agent
invariant-loop-agent l = map view l.list.items ≡ map (agent_data l.scene) (take l.agent-index l.agents)
