use Rattle.so_history_laws.proofs.CoopLaws.{whole_coops as law}
use Rattle.so_history_laws.proofs.whole_coops.Goals as goal

pub returns : goal.returns
returns c = law
