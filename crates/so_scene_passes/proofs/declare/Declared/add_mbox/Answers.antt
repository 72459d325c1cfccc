use Rattle.std.proofs.Common.{sym, ap, ◌∙◌, is_some}
use Rattle.so_scene_passes.proofs.Joined.{absent_second}
use Rattle.so_scene_passes.proofs.declare.Declared.add_mbox.Goals as goal

pub add-requires : goal.add-requires
add-requires c = absent_second _ c.args.self.now.agents c.args.self.now.mboxes (sym (ap is_some c.mbox.ensures) ∙ (sym c.is_some.ensures ∙ c.if-is_some.false))
