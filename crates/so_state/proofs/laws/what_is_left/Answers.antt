use Rattle.so_state.proofs.Ways.{is_on-exits}
use Rattle.so_state.proofs.laws.what_is_left.Goals as goal

pub returns : goal.returns
returns c = λ states from leaf s. is_on-exits states from leaf s
