use Rattle.so_state.proofs.Resolved.{resolve-down}
use Rattle.so_state.proofs.laws.a_state_stands_for_what_the_next_one_down_does.Goals as goal

pub returns : goal.returns
returns c = λ states leaves s tree. resolve-down states leaves s tree
