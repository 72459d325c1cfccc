use Rattle.so_exact.proofs.Converse.{exactly_legal as law}
use Rattle.so_exact.proofs.exactly_legal.Goals as goal

pub returns : goal.returns
returns c = law
