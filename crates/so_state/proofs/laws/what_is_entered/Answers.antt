use Rattle.so_state.proofs.Ways.{is_on-enters}
use Rattle.so_state.proofs.laws.what_is_entered.Goals as goal

pub returns : goal.returns
returns c = λ states from leaf s. is_on-enters states from leaf s
