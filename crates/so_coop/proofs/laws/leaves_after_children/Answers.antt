use Rattle.so_coop.proofs.LeavingLaws.{next_left}
use Rattle.so_coop.proofs.laws.leaves_after_children.Goals as goal

pub returns : goal.returns
returns c = next_left
