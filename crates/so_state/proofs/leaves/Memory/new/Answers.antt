use Rattle.so_state.proofs.Kept.{kept-none}
use Rattle.so_state.proofs.leaves.Memory.new.Goals as goal

pub returns : goal.returns
returns c = λ states. record { each = λ s. kept-none s }
