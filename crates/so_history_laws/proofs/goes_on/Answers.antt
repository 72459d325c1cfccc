use Rattle.so_history_laws.proofs.ChainLaws.{goes_on as law}
use Rattle.so_history_laws.proofs.goes_on.Goals as goal

pub returns : goal.returns
returns c = law
