use Rattle.so_state.proofs.Resolved.{resolve-below}
use Rattle.so_state.proofs.laws.a_switch_ends_at_its_target_or_below.Goals as goal

pub returns : goal.returns
returns c = λ states leaves to tree. resolve-below states leaves to tree
