use Rattle.so_facts.proofs.AllLaws.{has_all_facts as law}
use Rattle.so_facts.proofs.has_all_facts.Goals as goal

pub returns : goal.returns
returns c = law
