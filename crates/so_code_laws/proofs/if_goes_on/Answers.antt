use Rattle.so_code_laws.proofs.TurnLaws.{if_true as law}
use Rattle.so_code_laws.proofs.if_goes_on.Goals as goal

pub returns : goal.returns
returns c = law
