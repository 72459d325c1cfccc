use Rattle.std.proofs.Common.{◌≡◌, true}
use Rattle.std.proofs.lemmas.List.Elements.{recursion_from_All}
use Rattle.so_state.specs.States.{is_leaf}
use Rattle.so_state.proofs.Resolved.{resolve-leaf}
use Rattle.so_state.proofs.laws.a_switch_ends_in_a_leaf.Goals as goal

pub returns : goal.returns
returns c = λ states leaves to tree all. resolve-leaf states leaves to tree (recursion_from_All (λ leaf. is_leaf states leaf ≡ true) leaves all)
