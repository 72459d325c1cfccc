use Rattle.so_facts.proofs.ActLaws.{by_reason as law}
use Rattle.so_facts.proofs.by_reason.Goals as goal

pub returns : goal.returns
returns c = law
