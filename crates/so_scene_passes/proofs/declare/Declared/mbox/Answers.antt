use Rattle.so_scene_passes.proofs.Joined.{in_first, in_second, in_none, number_below}
use Rattle.so_scene_passes.proofs.declare.Declared.mbox.Goals as goal

pub returns-in-Some : goal.returns-in-Some
returns-in-Some c = in_first _ c.args.self.now.agents c.args.self.now.mboxes _ _ c.number.ensures c.in-Some.is

pub returns-in-Some-number : goal.returns-in-Some-number
returns-in-Some-number c = in_second _ c.args.self.now.agents c.args.self.now.mboxes _ _ _ _ c.number.ensures c.in-None.is c.number-in-None.ensures c.in-Some-number.is c.number_behind.ensures

pub returns-in-None-number : goal.returns-in-None-number
returns-in-None-number c = in_none _ c.args.self.now.agents c.args.self.now.mboxes _ _ c.number.ensures c.in-None.is c.number-in-None.ensures c.in-None-number.is

pub number_behind-requires : goal.number_behind-requires
number_behind-requires c = number_below c.args.self.now.mboxes _ _ _ c.number-in-None.ensures c.in-Some-number.is
