use Rattle.so_facts.proofs.MovingLaws.{while_running as law}
use Rattle.so_facts.proofs.while_running.Goals as goal

pub returns : goal.returns
returns c = law
