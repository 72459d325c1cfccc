use Rattle.so_state.proofs.FirstFault.{tree_fault-none, tree_fault-sound}
use Rattle.so_state.proofs.laws.no_fault_is_found_where_there_is_none.Goals as goal

pub returns : goal.returns
returns c = λ states. (λ none fault known. tree_fault-none states fault none known, tree_fault-sound states)
