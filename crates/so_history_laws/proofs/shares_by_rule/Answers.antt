use Rattle.so_history_laws.proofs.SharingLaws.{shares_by_rule as law}
use Rattle.so_history_laws.proofs.shares_by_rule.Goals as goal

pub returns : goal.returns
returns c = law
