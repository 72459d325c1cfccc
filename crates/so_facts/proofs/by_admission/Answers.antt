use Rattle.so_facts.proofs.RefusalLaws.{by_admission as law}
use Rattle.so_facts.proofs.by_admission.Goals as goal

pub returns : goal.returns
returns c = law
