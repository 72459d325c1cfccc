use Rattle.so_state.proofs.Ways.{path-exits}
use Rattle.so_state.proofs.laws.exits_run_from_the_leaf_upwards.Goals as goal

pub returns : goal.returns
returns c = λ states from leaf tree. path-exits states from leaf tree
