use Rattle.so_code_laws.proofs.BodyLaws.{lines_in_order as law}
use Rattle.so_code_laws.proofs.lines_in_order.Goals as goal

pub returns : goal.returns
returns c = law
