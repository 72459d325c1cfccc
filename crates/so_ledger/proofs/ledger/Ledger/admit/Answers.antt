use Rattle.std.proofs.Common.{◌<◌, length, ◌∙◌, ap, sym, subst}
use Rattle.so_scene.specs.Cooperations.{admission}
use Rattle.so_coop.specs.Coops.{answer_to}
use Rattle.so_ledger.specs.Shapes.{Core}
use Rattle.so_tables.proofs.CoopTableLaws.{standing-table}
use Rattle.so_ledger.proofs.ledger.Ledger.admit.Goals as goal

pub admit-requires : goal.admit-requires
admit-requires c =
    let K : Core → Type 0 = λ k. c.args.coop.0 < length k.scene.coops in
    rw c.self.invariant.0.tables (subst K (sym c.self.view_is) c.requires)

pub returns : goal.returns
returns c =
    rw (← c.self.view_is)
    (c.admit.ensures ∙ rw c.self.invariant.0.tables (ap (λ st. answer_to (admission c.self.inside.scene.now st c.args.coop)) (standing-table c.self.inside.scene.now c.self.inside.history.entries c.self.invariant.0.legal)))
