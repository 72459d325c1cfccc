use Rattle.so_mbox.proofs.TableLaws.{few_entered}
use Rattle.so_mbox.proofs.table.Table.registered.Goals as goal

pub returns-clause-few : goal.returns-clause-few
returns-clause-few c = rw (← c.self.view_is) (few_entered _ c.self.invariant.0)
