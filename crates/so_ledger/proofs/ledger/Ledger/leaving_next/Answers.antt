use Rattle.std.proofs.Common.{◌∙◌, ap}
use Rattle.so_scene.specs.Cooperations.{leaving_next}
use Rattle.so_tables.proofs.CoopTableLaws.{standing-table}
use Rattle.so_ledger.proofs.ledger.Ledger.leaving_next.Goals as goal

pub returns : goal.returns
returns c =
    rw (← c.self.view_is)
    (c.leaving_next.ensures ∙ rw c.self.invariant.0.tables (ap (leaving_next c.self.inside.scene.now) (standing-table c.self.inside.scene.now c.self.inside.history.entries c.self.invariant.0.legal)))
