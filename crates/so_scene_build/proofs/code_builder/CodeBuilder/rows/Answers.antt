use Rattle.so_scene_build.proofs.Written.{rows_go, rows_end}
use Rattle.so_scene_build.proofs.code_builder.CodeBuilder.rows.Goals as goal

pub loop-i-preserved : goal.loop-i-preserved
loop-i-preserved c = rows_go _ _ _ _ _ _ _ _ _ _ _ c.loop-i-test.true c.index-list-i.is c.loop-i.invariant c.handler_acts.ensures c.get.ensures c.position.ensures c.in_ok-handler.ensures

pub returns : goal.returns
returns c = rows_end _ _ _ _ _ c.loop-i-test.false c.loop-i.invariant
