use Rattle.so_state.proofs.TreeFacts.{path_fits}
use Rattle.so_state.proofs.laws.a_path_fits_a_plan.Goals as goal

pub returns : goal.returns
returns c = λ states s tree. path_fits states s tree
