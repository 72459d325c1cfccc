use Rattle.so_code_laws.proofs.PlanLaws.{transfers_once as law}
use Rattle.so_code_laws.proofs.transfers_once.Goals as goal

pub returns : goal.returns
returns c = law
