use Rattle.std.proofs.Common.{◌∙◌}
use Rattle.std.proofs.lemmas.List.{length-set}
use Rattle.so_tables.proofs.VarLaws.{set_back_none, set_back_next}
use Rattle.so_tables.proofs.variables.Variables.set_back.Goals as goal

pub loop-k-init : goal.loop-k-init
loop-k-init c = (c.requires.size, set_back_none c.args.scene.now c.args.first c.args.self.now)

pub loop-k-preserved : goal.loop-k-preserved
loop-k-preserved c =
    rw (c.set.ensures, c.agent.ensures.value)
    (length-set _ _ _ ∙ c.loop-k.invariant.0, set_back_next c.args.scene.now c.args.first c.loop-k.k c.args.self.now c.loop-k.self c.loop-k.invariant.1)
