use Rattle.std.proofs.Common.{◌∙◌}
use Rattle.so_tables.proofs.CoopTableLaws.{may_mark-table}
use Rattle.so_ledger.proofs.ledger.Ledger.may_mark.Goals as goal

pub returns : goal.returns
returns c = rw (← c.self.view_is) (c.may_mark.ensures ∙ rw c.self.invariant.0.tables (may_mark-table c.self.inside.scene.now c.self.inside.history.entries c.self.invariant.0.legal c.args.coop))
