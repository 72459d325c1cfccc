use Rattle.so_facts.proofs.FirstLaws.{taken_first as law}
use Rattle.so_facts.proofs.taken_first.Goals as goal

pub returns : goal.returns
returns c = law
