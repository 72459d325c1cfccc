use Rattle.so_scene_passes.proofs.Shapes.{few_acts, many_acts}
use Rattle.so_scene_passes.proofs.shape.act_list.Goals as goal

pub returns-then-list-gt256 : goal.returns-then-list-gt256
returns-then-list-gt256 c = many_acts c.args.allowed _ _ _ c.if-list-gt256.true c.copy.ensures

pub returns : goal.returns
returns c = few_acts c.args.allowed _ _ _ c.if-list-gt256.false c.first_act.ensures
