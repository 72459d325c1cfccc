use Rattle.std.proofs.Common.{refl}
use Rattle.so_history.proofs.history.History.with_units.Goals as goal

pub returns-clause-entries : goal.returns-clause-entries
returns-clause-entries c = rw c.in-Ok.ensures.items refl
