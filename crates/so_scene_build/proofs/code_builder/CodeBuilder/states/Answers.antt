use Rattle.so_scene_build.proofs.Written.{states_go, states_end}
use Rattle.so_scene_build.proofs.code_builder.CodeBuilder.states.Goals as goal

pub loop-i-preserved : goal.loop-i-preserved
loop-i-preserved c = states_go _ _ _ _ _ _ _ _ c.loop-i-test.true c.index-list-i.is c.loop-i.invariant c.in_ok-state.ensures

pub returns : goal.returns
returns c = states_end _ _ _ _ _ c.loop-i-test.false c.loop-i.invariant
