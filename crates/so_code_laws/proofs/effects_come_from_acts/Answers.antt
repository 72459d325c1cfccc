use Rattle.so_code.proofs.ShapeLaws.{places-code}
use Rattle.so_code.proofs.MoveLaws.{comes}
use Rattle.so_code_laws.proofs.effects_come_from_acts.Goals as goal

pub returns : goal.returns
returns c = λ code f g e is_code frame moves. comes code (places-code code is_code) f g e frame moves
