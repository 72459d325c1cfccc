use Rattle.so_code_laws.proofs.BodyLaws.{acts_in_order as law}
use Rattle.so_code_laws.proofs.acts_in_order.Goals as goal

pub returns : goal.returns
returns c = law
