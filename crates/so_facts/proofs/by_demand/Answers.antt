use Rattle.so_facts.proofs.ChoosingLaws.{by_demand as law}
use Rattle.so_facts.proofs.by_demand.Goals as goal

pub returns : goal.returns
returns c = law
