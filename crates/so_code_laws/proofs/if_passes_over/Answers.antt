use Rattle.so_code_laws.proofs.TurnLaws.{if_false as law}
use Rattle.so_code_laws.proofs.if_passes_over.Goals as goal

pub returns : goal.returns
returns c = law
