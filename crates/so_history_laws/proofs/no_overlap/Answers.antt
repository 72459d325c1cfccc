use Rattle.so_history_laws.proofs.OverlapLaws.{no_overlap as law}
use Rattle.so_history_laws.proofs.no_overlap.Goals as goal

pub returns : goal.returns
returns c = law
