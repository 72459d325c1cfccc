use Rattle.so_scene_fields.proofs.Args.{args_stop, args_go, args_end}
use Rattle.so_scene_fields.proofs.acts.args_fault.Goals as goal

pub returns-in-Some : goal.returns-in-Some
returns-in-Some c = args_stop _ _ _ _ _ _ _ _ c.arg_fault.result _ c.loop-i-test.true c.requires c.index-list-i.is c.loop-i.invariant c.arg_fault.ensures c.in-Some.is

pub loop-i-preserved : goal.loop-i-preserved
loop-i-preserved c = args_go _ _ _ _ _ _ _ _ c.arg_fault.result c.loop-i-test.true c.requires c.index-list-i.is c.loop-i.invariant c.arg_fault.ensures c.in-None.is

pub returns : goal.returns
returns c = args_end _ _ _ _ _ c.loop-i-test.false c.loop-i.invariant
