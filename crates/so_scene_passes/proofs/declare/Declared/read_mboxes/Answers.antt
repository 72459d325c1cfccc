use Rattle.so_scene_passes.proofs.Mboxes.{mboxes_go, mboxes_end}
use Rattle.so_scene_passes.proofs.declare.Declared.read_mboxes.Goals as goal

pub loop-value-preserved : goal.loop-value-preserved
loop-value-preserved c = mboxes_go _ _ _ _ _ _ _ c.loop-value-test.true c.value-item.is c.loop-value.invariant c.in_ok-read_mbox.ensures

pub returns : goal.returns
returns c = mboxes_end _ _ _ _ c.loop-value-test.false c.loop-value.invariant
