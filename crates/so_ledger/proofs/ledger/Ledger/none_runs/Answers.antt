use Rattle.so_tables.proofs.TableLaws.{free-running}
use Rattle.so_ledger.proofs.ledger.Ledger.none_runs.Goals as goal

pub returns : goal.returns
returns c = rw (← c.self.view_is) (free-running c.self.inside.scene.now c.self.inside.history.entries c.all_free.result c.self.invariant.0.legal (rw c.self.invariant.0.tables at c.all_free.ensures))
