use Rattle.so_code.proofs.ShapeLaws.{places-code}
use Rattle.so_code.proofs.MoveLaws.{after_silent}
use Rattle.so_code_laws.proofs.step_goes_on.Goals as goal

pub returns : goal.returns
returns c = λ code f g is_code frame e. after_silent code (places-code code is_code) f g frame e
