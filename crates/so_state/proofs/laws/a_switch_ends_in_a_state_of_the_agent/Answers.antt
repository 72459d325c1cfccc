use Rattle.so_state.proofs.Resolved.{resolve-few}
use Rattle.so_state.proofs.laws.a_switch_ends_in_a_state_of_the_agent.Goals as goal

pub returns : goal.returns
returns c = λ states leaves to tree few. resolve-few states leaves to tree few
