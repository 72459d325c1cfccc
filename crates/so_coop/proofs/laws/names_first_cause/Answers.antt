use Rattle.so_coop.proofs.AdmissionLaws.{names_first}
use Rattle.so_coop.proofs.laws.names_first_cause.Goals as goal

pub returns : goal.returns
returns c = names_first
