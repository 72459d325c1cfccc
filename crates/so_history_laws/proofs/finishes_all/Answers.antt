use Rattle.so_history_laws.proofs.LeavingLaws.{finishes_all as law}
use Rattle.so_history_laws.proofs.finishes_all.Goals as goal

pub returns : goal.returns
returns c = law
