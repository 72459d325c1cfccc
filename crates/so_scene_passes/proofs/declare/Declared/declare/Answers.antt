use Rattle.std.proofs.Common.{sym, ap, ◌∙◌, is_some}
use Rattle.so_scene.specs.Names.{has_name}
use Rattle.so_scene_passes.specs.Twice.{names_in}
use Rattle.so_scene_passes.proofs.Joined.{absent_first}
use Rattle.so_scene_passes.proofs.declare.Declared.declare.Goals as goal

pub add-added-requires-in-Mboxes : goal.add-added-requires-in-Mboxes
add-added-requires-in-Mboxes c =
    absent_first c.args.name.now c.args.self.now.agents c.args.self.now.mboxes
    (ap (λ s. has_name (names_in s c.args.self.now) c.args.name.now) (sym c.in-Mboxes.is) ∙ (sym (ap is_some c.number.ensures) ∙ (sym c.is_some.ensures ∙ c.if-is_some.false)))
