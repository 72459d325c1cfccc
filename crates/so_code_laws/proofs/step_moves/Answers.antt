use Rattle.so_code.proofs.ShapeLaws.{places-code}
use Rattle.so_code.proofs.MoveLaws.{after_told}
use Rattle.so_code_laws.proofs.step_moves.Goals as goal

pub returns : goal.returns
returns c = λ code f g move is_code frame e. after_told code (places-code code is_code) f g move frame e
