use Rattle.std.proofs.Common.{◌≡◌, List, Bool, true, false, Option, Some, None, refl, sym, ◌∙◌}
use Rattle.std.specs.Prelude.{IfSome, is_some}
use Rattle.so_ids.specs.declared.StateId.{StateId}
use Rattle.so_state.specs.declared.states.State.{State}
use Rattle.so_state.specs.States.{is_composite, initial_of, parent_of}
use Rattle.so_state.specs.Fault.{IsTree}
use Rattle.so_state.proofs.Resolved.{composite_initial, initial_of-parent, composite_with_initial}
use Rattle.so_state.proofs.laws.a_composite_state_has_an_initial_substate.Goals as goal

has_by : (states : List State) (s : StateId) → IsTree states → (o : Option StateId) (b : Bool) → initial_of states s ≡ o → is_composite states s ≡ b → is_some o ≡ b
has_by states s tree None true first composite = let e = sym first ∙ composite_initial states s tree composite in cc
has_by states s tree None false first composite = refl
has_by states s tree (Some initial) true first composite = refl
has_by states s tree (Some initial) false first composite = let e : true ≡ false = sym (composite_with_initial states s initial first) ∙ composite in cc

if_some : (states : List State) (s : StateId) (o : Option StateId) → initial_of states s ≡ o → IfSome o (λ initial. parent_of states initial ≡ Some s)
if_some states s None first = tt
if_some states s (Some initial) first = initial_of-parent states s initial first

pub returns-clause-has_one : goal.returns-clause-has_one
returns-clause-has_one c = λ states s tree. has_by states s tree (initial_of states s) (is_composite states s) refl refl

pub returns-clause-is_substate : goal.returns-clause-is_substate
returns-clause-is_substate c = λ states s. if_some states s (initial_of states s) refl
