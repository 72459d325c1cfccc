use Rattle.so_state.proofs.FirstFault.{tree_fault-first, tree_fault-found}
use Rattle.so_state.proofs.laws.the_first_fault_is_found.Goals as goal

pub returns : goal.returns
returns c = λ states fault. (tree_fault-first states fault, tree_fault-found states fault)
