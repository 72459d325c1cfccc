use Rattle.std.proofs.Common.{sym, ◌∙◌}
use Rattle.so_scene_writer.proofs.Listed.{behind_go_on, behind_stays}
use Rattle.so_scene_writer.proofs.agents.behind_states.Goals as goal

pub loop-preserved : goal.loop-preserved
loop-preserved c = behind_go_on c.args.states c.loop.counter c.loop.left.now _ _ c.loop-test.true c.behind.ensures c.behind-left.ensures ∙ c.loop.invariant

pub returns : goal.returns
returns c = sym (behind_stays c.args.states c.loop.counter c.loop.left.now c.loop-test.false) ∙ c.loop.invariant
