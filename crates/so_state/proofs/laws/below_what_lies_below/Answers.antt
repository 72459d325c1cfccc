use Rattle.so_state.proofs.Resolved.{or_below-trans}
use Rattle.so_state.proofs.laws.below_what_lies_below.Goals as goal

pub returns : goal.returns
returns c = λ states high middle low tree upper lower. or_below-trans states high middle low tree upper lower
