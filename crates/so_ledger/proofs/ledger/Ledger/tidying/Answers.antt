use Rattle.std.proofs.Common.{sym, ◌∙◌}
use Rattle.so_ledger.proofs.DecideLaws.{leaving_row, left_row}
use Rattle.so_ledger.proofs.ledger.Ledger.tidying.Goals as goal

pub returns-in-Some-leaving_entry-clause-row : goal.returns-in-Some-leaving_entry-clause-row
returns-in-Some-leaving_entry-clause-row c = leaving_row c.args.self.now.scene c.args.self.now.history c.in-Some-leaving_entry.entry (sym c.leaving_entry.ensures ∙ c.in-Some-leaving_entry.is)

pub returns-in-Some-left_entry-clause-row : goal.returns-in-Some-left_entry-clause-row
returns-in-Some-left_entry-clause-row c = left_row c.args.self.now.scene c.args.self.now.history c.in-Some-left_entry.entry (sym c.left_entry.ensures ∙ c.in-Some-left_entry.is)
