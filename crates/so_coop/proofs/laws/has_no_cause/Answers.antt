use Rattle.so_coop.proofs.AdmissionLaws.{no_cause}
use Rattle.so_coop.proofs.laws.has_no_cause.Goals as goal

pub returns : goal.returns
returns c = no_cause
