use Rattle.std.proofs.Common.{◌∙◌}
use Rattle.so_tables.proofs.CoopTableLaws.{next-table}
use Rattle.so_ledger.proofs.ledger.Ledger.next_coop.Goals as goal

pub returns : goal.returns
returns c = rw (← c.self.view_is) (c.next.ensures ∙ rw c.self.invariant.0.tables (next-table c.self.inside.scene.now c.self.inside.history.entries))
