use Rattle.so_state.proofs.Ancestry.{path-distinct}
use Rattle.so_state.proofs.laws.a_path_has_no_state_twice.Goals as goal

pub returns : goal.returns
returns c = λ states s tree. path-distinct states s tree
