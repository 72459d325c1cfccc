use Rattle.std.proofs.Common.{ap, [], ◌∙◌}
use Rattle.serde_json.specs.Data.{array}
use Rattle.serde_json.specs.View.{items_of}
use Rattle.serde_json.proofs.Views.{view-Array}
use Rattle.so_scene_data.specs.Canonical.{agent_data}
use Rattle.so_scene_writer.proofs.Listed.{shown_more, shown_all}
use Rattle.so_scene_writer.proofs.agents.agents_value.Goals as goal

pub loop-agent-preserved : goal.loop-agent-preserved
loop-agent-preserved c = shown_more (agent_data c.args.scene.now) [] _ _ _ _ _ _ _ c.loop-agent-test.true c.agent-item.is c.loop-agent.invariant c.in_ok-agent_value.ensures c.in_ok-push.ensures.items

pub returns : goal.returns
returns c = view-Array c.loop-agent.list ∙ ap (λ ds. array (items_of ds)) (shown_all (agent_data c.args.scene.now) [] c.loop-agent.list.items c.args.agents.now c.loop-agent.agent-index c.loop-agent-test.false c.loop-agent.invariant)
