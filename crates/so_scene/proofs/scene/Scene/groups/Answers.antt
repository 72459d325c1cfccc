use Rattle.std.proofs.Common.{arith, ap, length}
use Rattle.so_scene.specs.Parts.{groups_of}
use Rattle.so_scene.proofs.LaneLaws.{few_groups}
use Rattle.so_scene.proofs.scene.Scene.groups.Goals as goal

pub overflow_cast-result : goal.overflow_cast-result
overflow_cast-result c =
    omega (arith, few_groups c.args.self.now c.parts.ensures.keeps c.args.disp c.requires, ap (λ s. length (groups_of s c.args.disp)) c.parts.ensures.value, ap length c.group_names.ensures, c.len.ensures)
