use Rattle.so_code_laws.proofs.PlanLaws.{parts_in_order as law}
use Rattle.so_code_laws.proofs.plan_in_order.Goals as goal

pub returns : goal.returns
returns c = law
