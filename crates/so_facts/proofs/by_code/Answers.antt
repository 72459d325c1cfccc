use Rattle.so_facts.proofs.ActLaws.{by_code as law}
use Rattle.so_facts.proofs.by_code.Goals as goal

pub returns : goal.returns
returns c = law
