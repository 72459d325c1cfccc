use Rattle.std.proofs.Common.{◌∙◌}
use Rattle.so_tables.proofs.CoopTableLaws.{left-table}
use Rattle.so_ledger.proofs.ledger.Ledger.left_next.Goals as goal

pub returns : goal.returns
returns c = rw (← c.self.view_is) (c.left_next.ensures ∙ rw c.self.invariant.0.tables (left-table c.self.inside.scene.now c.self.inside.history.entries c.self.invariant.0.legal c.self.invariant.0.scene))
