use Rattle.std.proofs.Common.{◌≡◌, ◌≤◌, ℕ, List, length, true, Option, Some, None, refl}
use Rattle.std.specs.Prelude.{IfSome}
use Rattle.std.proofs.lemmas.Bool.{and_from, lt-ltb, le-leb}
use Rattle.so_ids.specs.declared.StateId.{StateId}
use Rattle.so_state.specs.declared.states.State.{State}
use Rattle.so_state.specs.States.{is_declared, parent_of, limit_of}
use Rattle.so_state.specs.Fault.{IsTree}
use Rattle.so_state.proofs.TreeFacts.{parent_declared, limit_known}
use Rattle.so_state.proofs.laws.a_tree_names_known_states.Goals as goal

parent_by : (states : List State) (s : StateId) → IsTree states → (o : Option StateId) → parent_of states s ≡ o → IfSome o (λ parent. is_declared states parent ≡ true)
parent_by states s tree None e = tt
parent_by states s tree (Some parent) e =
    let known = parent_declared states s parent tree e in
    and_from _ _ (lt-ltb 0 parent.0 known.0) (le-leb parent.0 (length states) known.1)

limit_by : (states : List State) (s : StateId) → IsTree states → (o : Option (ℕ × StateId)) → limit_of states s ≡ o → IfSome o (λ limit. (limit.1).0 ≤ length states)
limit_by states s tree None e = tt
limit_by states s tree (Some limit) e = limit_known states s limit tree e

pub returns-clause-parent : goal.returns-clause-parent
returns-clause-parent c = λ states s tree. parent_by states s tree (parent_of states s) refl

pub returns-clause-limit : goal.returns-clause-limit
returns-clause-limit c = λ states s tree. limit_by states s tree (limit_of states s) refl
