use Rattle.so_scene_build.proofs.Written.{written_go, written_end}
use Rattle.so_scene_build.proofs.code_builder.CodeBuilder.acts.Goals as goal

pub loop-i-preserved : goal.loop-i-preserved
loop-i-preserved c = written_go _ _ _ _ _ _ _ _ _ c.loop-i-test.true c.index-list-i.is c.loop-i.invariant c.in_ok-act.ensures

pub returns : goal.returns
returns c = written_end _ _ _ _ _ _ c.loop-i-test.false c.loop-i.invariant
