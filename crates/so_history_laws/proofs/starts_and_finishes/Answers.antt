use Rattle.so_history_laws.proofs.CoopLaws.{starts_and_finishes as law}
use Rattle.so_history_laws.proofs.starts_and_finishes.Goals as goal

pub returns : goal.returns
returns c = law
