use Rattle.std.proofs.Common.{rules}
use Rattle.so_scene_fields.specs.Acts.{act_trouble}
use Rattle.so_scene_passes.proofs.Shapes.{acts_stop, acts_go, acts_end}
use Rattle.so_scene_passes.proofs.shape.first_act.Goals as goal

pub returns-in-Some : goal.returns-in-Some
returns-in-Some c = acts_stop _ (act_trouble c.args.allowed) _ c.step.result _ _ _ _ c.act_fault.result _ _ c.loop-i-test.true c.index-list-i.is c.loop-i.invariant c.act_fault.ensures c.in-Some.is (search rules) c.fault_at.ensures

pub loop-i-preserved : goal.loop-i-preserved
loop-i-preserved c = acts_go _ (act_trouble c.args.allowed) _ _ _ _ _ c.act_fault.result c.loop-i-test.true c.index-list-i.is c.loop-i.invariant c.act_fault.ensures c.in-None.is

pub returns : goal.returns
returns c = acts_end _ (act_trouble c.args.allowed) _ _ _ c.loop-i-test.false c.loop-i.invariant
