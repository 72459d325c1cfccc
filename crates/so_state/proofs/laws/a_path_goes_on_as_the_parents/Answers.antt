use Rattle.std.proofs.Common.{◌≡◌, List, [], ◌∷◌, Option, Some, None, refl}
use Rattle.std.specs.Prelude.{MatchOption}
use Rattle.so_ids.specs.declared.StateId.{StateId}
use Rattle.so_state.specs.declared.states.State.{State}
use Rattle.so_state.specs.States.{parent_of, path}
use Rattle.so_state.specs.Fault.{IsTree}
use Rattle.so_state.proofs.Ancestry.{path-top, path-below}
use Rattle.so_state.proofs.laws.a_path_goes_on_as_the_parents.Goals as goal

by_parent : (states : List State) (s : StateId) → IsTree states → (o : Option StateId) → parent_of states s ≡ o → MatchOption o (path states s ≡ s ∷ []) (λ parent. path states s ≡ s ∷ path states parent)
by_parent states s tree None up = path-top states s up
by_parent states s tree (Some parent) up = path-below states s parent tree up

pub returns : goal.returns
returns c = λ states s tree. by_parent states s tree (parent_of states s) refl
