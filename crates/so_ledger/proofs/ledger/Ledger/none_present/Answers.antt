use Rattle.std.proofs.Common.{◌∙◌, ap}
use Rattle.std.specs.Prelude.{◌==◌}
use Rattle.so_tables.proofs.CoopTableLaws.{nobody-table}
use Rattle.so_ledger.proofs.ledger.Ledger.none_present.Goals as goal

pub returns : goal.returns
returns c =
    rw (← c.self.view_is)
    (ap (λ n. n == 0) c.present.ensures ∙ rw c.self.invariant.0.tables (nobody-table c.self.inside.scene.now c.self.inside.history.entries c.self.invariant.0.legal))
