-- What a switch resolves to: a leaf, at its target or below.
use Rattle.std.proofs.Common.{◌≡◌, ℕ, zero, suc, ◌+◌, ◌<◌, ◌≤◌, ⊎_elim, Bool, true, false, ◌||◌, List, [], ◌∷◌, ◌++◌, length, Option, Some, None, arith, refl, sym, ap, subst, ◌∙◌, add-one}
use Rattle.std.specs.Prelude.{not, position, slice_get, unwrap_or, nat_eq}
use Rattle.std.specs.List.{AllByRecursion, list_any, position_or_len}
use Rattle.std.specs.Option.{option_map, option_and_then}
use Rattle.std.proofs.lemmas.Bool.{or_cases, and_parts, and_cases, eq-eqb, eqb-true}
use Rattle.std.proofs.lemmas.List.Folds.{list_any-append, list_any_at}
use Rattle.std.proofs.lemmas.Option.{slice_get_within, get_or_from_slice_get}
use Rattle.so_ids.specs.declared.StateId.{StateId}
use Rattle.so_state.specs.declared.states.State.{State}
use Rattle.so_state.specs.declared.states.History.{History}
use Rattle.so_state.specs.declared.states.History.TheVariants.{None as NoHistory, Shallow, Deep}
use Rattle.so_state.specs.States.{same_state, is_this, is_on, number_of, state_of, parent_of, history_of, state_numbered, is_substate_of, is_initial_of, is_composite, is_leaf, initial_of, ancestors, path, is_below, is_or_below}
use Rattle.so_state.specs.Fault.{initials, IsTree}
use Rattle.so_state.specs.Plan.{toward, newest_below, down_by, down, resolve_within, resolve}
use Rattle.so_state.proofs.Lists.{or_right, position-element, find-passes, find-keeps, position-some, count_by-none}
use Rattle.so_state.proofs.TreeFacts.{IsTree-holds, is_top, is_listed, standing, ancestors_within-top, parent_declared}
use Rattle.so_state.proofs.Ancestry.{same_state-refl, same_state-true, depth-few, path-below, path-top}

-- ---- paths within paths

pub data EndsIn (whole rest : List StateId) : Type 0 where
  after : (front : List StateId) → whole ≡ front ++ rest → EndsIn whole rest

ends_below : (states : List State) (s p x : StateId) → IsTree states → parent_of states s ≡ Some p → EndsIn (path states p) (path states x) → EndsIn (path states s) (path states x)
ends_below states s p x tree up (after front e) = after (s ∷ front) (path-below states s p tree up ∙ ap (λ l. s ∷ l) e)

path_ends_by : (n : ℕ) (states : List State) (s x : StateId) → IsTree states → length (path states s) ≤ n → is_on (path states s) x ≡ true → (o : Option StateId) → parent_of states s ≡ o → EndsIn (path states s) (path states x)
path_ends_by zero states s x tree few on o up = absurd (omega arith)
path_ends_by (suc n) states s x tree few on None up =
    let alone : is_on (s ∷ []) x ≡ true = subst (λ (l : List StateId). is_on l x ≡ true) (path-top states s up) on in
    ⊎_elim
    (λ (here : same_state x s ≡ true). after [] (ap (path states) (sym (same_state-true x s here))))
    (λ (never : false ≡ true). cc)
    (or_cases (same_state x s) false alone)
path_ends_by (suc n) states s x tree few on (Some p) up =
    let longer : is_on (s ∷ path states p) x ≡ true = subst (λ (l : List StateId). is_on l x ≡ true) (path-below states s p tree up) on in
    ⊎_elim
    (λ (here : same_state x s ≡ true). after [] (ap (path states) (sym (same_state-true x s here))))
    (λ (above : is_on (path states p) x ≡ true). ends_below states s p x tree up (path_ends_by n states p x tree (omega (arith, ap length (path-below states s p tree up))) above (parent_of states p) refl))
    (or_cases (same_state x s) (is_on (path states p) x) longer)

-- the path of a state that lies above ends this one
pub path_ends : (states : List State) (s x : StateId) → IsTree states → is_on (path states s) x ≡ true → EndsIn (path states s) (path states x)
path_ends states s x tree on = path_ends_by (length (path states s)) states s x tree (omega arith) on (parent_of states s) refl

on_end : (front rest : List StateId) (x : StateId) → is_on rest x ≡ true → is_on (front ++ rest) x ≡ true
on_end front rest x on = list_any-append (same_state x) front rest ∙ or_right (is_on front x) (is_on rest x) on

on_whole : (whole rest : List StateId) (x : StateId) → EndsIn whole rest → is_on rest x ≡ true → is_on whole x ≡ true
on_whole whole rest x (after front e) on = ap (λ l. is_on l x) e ∙ on_end front rest x on

pub or_below-itself : (states : List State) (s : StateId) → is_or_below states s s ≡ true
or_below-itself states s = ap (λ b. b || is_below states s s) (same_state-refl s)

-- what is or lies below a state below is or lies below
pub or_below-trans : (states : List State) (a b c : StateId) → IsTree states → is_or_below states a b ≡ true → is_or_below states b c ≡ true → is_or_below states a c ≡ true
or_below-trans states a b c tree upper lower = on_whole (path states c) (path states b) a (path_ends states c b tree lower) upper

pub or_below-parent : (states : List State) (s c : StateId) → IsTree states → parent_of states c ≡ Some s → is_or_below states s c ≡ true
or_below-parent states s c tree up =
    ap (λ l. is_on l s) (path-below states c s tree up) ∙ or_right (same_state s c) (is_on (path states s) s) (or_below-itself states s)

-- ---- substates

this_is : (s : StateId) (o : Option StateId) → is_this s o ≡ true → o ≡ Some s
this_is s None this = cc
this_is s (Some other) this = ap (λ (t : StateId). Some t) (same_state-true other s this)

-- what was declared at a place is what was declared of the state of that number
state_of-number : (states : List State) (k : ℕ) → state_of states (number_of k) ≡ slice_get states k
state_of-number states k = ap (state_numbered states) (add-one k)

parent_at : (states : List State) (k : ℕ) (state : State) (s : StateId) → slice_get states k ≡ Some state → is_substate_of s state ≡ true → parent_of states (number_of k) ≡ Some s
parent_at states k state s found this =
    ap (option_and_then (λ (t : State). t.parent)) (state_of-number states k ∙ found) ∙ this_is s state.parent this

initial_at : (states : List State) (s c : StateId) (o : Option ℕ) → position (is_initial_of s) states ≡ o → option_map number_of o ≡ Some c → parent_of states c ≡ Some s
initial_at states s c None place e = cc
initial_at states s c (Some k) place e =
    let w = position-element (is_initial_of s) states k place in
    let same : number_of k ≡ c = cc in
    subst (λ (t : StateId). parent_of states t ≡ Some s) same (parent_at states k w.0 s w.1 (and_parts _ _ w.2).0)

-- an initial substate is one of the state's substates
pub initial_of-parent : (states : List State) (s c : StateId) → initial_of states s ≡ Some c → parent_of states c ≡ Some s
initial_of-parent states s c e = initial_at states s c (position (is_initial_of s) states) refl e

-- what has a substate is declared
composite_listed : (states : List State) (s : StateId) → IsTree states → is_composite states s ≡ true → (0 < s.0) × (s.0 ≤ length states)
composite_listed states s tree composite =
    let w = position-element (is_substate_of s) states _ (position-some (is_substate_of s) states composite) in
    parent_declared states (number_of (position_or_len (is_substate_of s) states)) s tree (parent_at states _ w.0 s w.1 w.2)

initials_some : (states : List State) (s : StateId) (b : Bool) → list_any (is_initial_of s) states ≡ b → nat_eq (initials states s) 0 ≡ false → list_any (is_initial_of s) states ≡ true
initials_some states s true e some = e
initials_some states s false e some =
    let zero_of : initials states s ≡ 0 = count_by-none (is_initial_of s) states e in
    let t : true ≡ false = sym (eq-eqb (initials states s) 0 zero_of) ∙ some in cc

-- a composite state has an initial substate
pub composite_initial : (states : List State) (s : StateId) → IsTree states → is_composite states s ≡ true → initial_of states s ≡ Some (number_of (position_or_len (is_initial_of s) states))
composite_initial states s tree composite =
    let listed = composite_listed states s tree composite in
    let some : nat_eq (initials states s) 0 ≡ false =
    ⊎_elim
    (λ (none : is_composite states s ≡ false). let t : true ≡ false = sym composite ∙ none in cc)
    (λ (some : nat_eq (initials states s) 0 ≡ false). some)
    (and_cases (is_composite states s) (nat_eq (initials states s) 0) (IsTree-holds states tree s listed.0 listed.1).some_initial) in
    ap (option_map number_of) (position-some (is_initial_of s) states (initials_some states s (list_any (is_initial_of s) states) refl some))

leaf_by : (states : List State) (s : StateId) (b : Bool) → IsTree states → is_composite states s ≡ b → initial_of states s ≡ None → is_leaf states s ≡ true
leaf_by states s true tree e none = let t : None ≡ Some (number_of (position_or_len (is_initial_of s) states)) = sym none ∙ composite_initial states s tree e in cc
leaf_by states s false tree e none = ap not e

-- a state without an initial substate is a leaf
pub leaf_without_initial : (states : List State) (s : StateId) → IsTree states → initial_of states s ≡ None → is_leaf states s ≡ true
leaf_without_initial states s tree none = leaf_by states s (is_composite states s) tree refl none

-- ---- the leaf at the end

unlisted_leaf : (states : List State) (s : StateId) (b : Bool) → IsTree states → is_composite states s ≡ b → ((0 < s.0) × (s.0 ≤ length states) → ⊥) → is_leaf states s ≡ true
unlisted_leaf states s true tree e unlisted = absurd (unlisted (composite_listed states s tree e))
unlisted_leaf states s false tree e unlisted = ap not e

-- with as many ancestors as states there is nothing below
bottom_leaf : (states : List State) (s : StateId) → IsTree states → length states ≤ length (ancestors states s) → is_leaf states s ≡ true
bottom_leaf states s tree deep =
    unlisted_leaf states s (is_composite states s) tree refl (λ listed. let few : length (path states s) ≤ length states = depth-few states s tree listed.0 listed.1 in omega arith)

deeper : (states : List State) (s c : StateId) → IsTree states → parent_of states c ≡ Some s → length (ancestors states c) ≡ suc (length (ancestors states s))
deeper states s c tree up = let e = ap length (path-below states c s tree up) in omega (arith, e)

module _ (states : List State) (tree : IsTree states) (Good : StateId → StateId → Type 0) (go : StateId → StateId) (s : StateId) (here : (c : StateId) → parent_of states c ≡ Some s → Good s (go c)) where
  toward_good : (low initial : StateId) (o : Option StateId) → toward states s low ≡ o → initial_of states s ≡ Some initial → Good s (go (unwrap_or o initial))
  toward_good low initial None e first = here initial (initial_of-parent states s initial first)
  toward_good low initial (Some c) e first = here c (this_is s (parent_of states c) (find-passes (λ t. is_this s (parent_of states t)) (path states low) c e))

  down_by_good : (history : History) (newest : Option StateId) (initial : StateId) → initial_of states s ≡ Some initial → ((low : StateId) → newest ≡ Some low → Good s low) → Good s (down_by go states s history newest initial)
  down_by_good NoHistory newest initial first last = here initial (initial_of-parent states s initial first)
  down_by_good Shallow None initial first last = here initial (initial_of-parent states s initial first)
  down_by_good Shallow (Some low) initial first last = toward_good low initial (toward states s low) refl first
  down_by_good Deep None initial first last = here initial (initial_of-parent states s initial first)
  down_by_good Deep (Some low) initial first last = last low refl

  down_good : (newest o : Option StateId) → initial_of states s ≡ o → ((low : StateId) → newest ≡ Some low → Good s low) → (initial_of states s ≡ None → Good s s) → Good s (down go states s newest o)
  down_good newest None first last none = none first
  down_good newest (Some initial) first last none = down_by_good (history_of states s) newest initial first last

-- what was entered last below a state is a leaf, and so is what the state resolves to
resolve_within-leaf : (n : ℕ) (states : List State) (newest : StateId → Option StateId) (s : StateId) → IsTree states → ((t low : StateId) → newest t ≡ Some low → is_leaf states low ≡ true) → length states ≤ length (ancestors states s) + n → is_leaf states (resolve_within n states newest s) ≡ true
resolve_within-leaf zero states newest s tree leaves enough = bottom_leaf states s tree (omega arith)
resolve_within-leaf (suc n) states newest s tree leaves enough =
    down_good states tree (λ _ r. is_leaf states r ≡ true) (resolve_within n states newest) s
    (λ c up. resolve_within-leaf n states newest c tree leaves (omega (arith, deeper states s c tree up)))
    (newest s) (initial_of states s) refl (leaves s) (leaf_without_initial states s tree)

resolve_within-below : (n : ℕ) (states : List State) (newest : StateId → Option StateId) (s : StateId) → IsTree states → ((t low : StateId) → newest t ≡ Some low → is_below states t low ≡ true) → is_or_below states s (resolve_within n states newest s) ≡ true
resolve_within-below zero states newest s tree below = or_below-itself states s
resolve_within-below (suc n) states newest s tree below =
    down_good states tree (λ t r. is_or_below states t r ≡ true) (resolve_within n states newest) s
    (λ c up. or_below-trans states s c _ tree (or_below-parent states s c tree up) (resolve_within-below n states newest c tree below))
    (newest s) (initial_of states s) refl (λ low e. or_right (same_state s low) (is_below states s low) (below s low e)) (λ none. or_below-itself states s)

pub resolve-leaf : (states : List State) (leaves : List StateId) (to : StateId) → IsTree states → AllByRecursion (λ l. is_leaf states l ≡ true) leaves → is_leaf states (resolve states leaves to) ≡ true
resolve-leaf states leaves to tree all =
    resolve_within-leaf (length states) states (newest_below states leaves) to tree (λ t low e. find-keeps (λ l. is_leaf states l ≡ true) (is_below states t) leaves low all e) (omega arith)

pub resolve-below : (states : List State) (leaves : List StateId) (to : StateId) → IsTree states → is_or_below states to (resolve states leaves to) ≡ true
resolve-below states leaves to tree =
    resolve_within-below (length states) states (newest_below states leaves) to tree (λ t low e. find-passes (is_below states t) leaves low e)

-- a switch to a declared state or to `default` ends in such a state
pub resolve-few : (states : List State) (leaves : List StateId) (to : StateId) → IsTree states → to.0 ≤ length states → (resolve states leaves to).0 ≤ length states
resolve-few states leaves to tree few = few_by (resolve states leaves to) (resolve-below states leaves to tree)
  where
    few_by : (leaf : StateId) → is_or_below states to leaf ≡ true → leaf.0 ≤ length states
    few_by leaf below =
        elim (standing states leaf) [
          | is_top none top ↦
              ⊎_elim
              (λ (here : same_state to leaf ≡ true). let e : to.0 ≡ leaf.0 = eqb-true to.0 leaf.0 here in omega arith)
              (λ (above : is_below states to leaf ≡ true). let none : is_below states to leaf ≡ false = ap (λ l. is_on l to) (ancestors_within-top (length states) states leaf top) in let e : true ≡ false = sym above ∙ none in cc)
              (or_cases (same_state to leaf) (is_below states to leaf) below)
          | is_listed low within ↦ within
        ]

initial_substate : (states : List State) (s : StateId) (initial : StateId) (o : Option ℕ) → position (is_initial_of s) states ≡ o → option_map number_of o ≡ Some initial → is_composite states s ≡ true
initial_substate states s initial None place e = cc
initial_substate states s initial (Some k) place e =
    let w = position-element (is_initial_of s) states k place in
    let within : k < length states = slice_get_within states k w.0 w.1 in
    list_any_at (is_substate_of s) states k w.0 within (ap (is_substate_of s) (get_or_from_slice_get states k w.0 w.0 w.1) ∙ (and_parts _ _ w.2).0)

-- a state with an initial substate is composite
pub composite_with_initial : (states : List State) (s initial : StateId) → initial_of states s ≡ Some initial → is_composite states s ≡ true
composite_with_initial states s initial first = initial_substate states s initial (position (is_initial_of s) states) refl first

-- ---- the steps down are enough

module _ (states : List State) (f g : StateId → StateId) (s : StateId) (same : (c : StateId) → parent_of states c ≡ Some s → f c ≡ g c) where
  toward_alike : (low initial : StateId) (o : Option StateId) → toward states s low ≡ o → initial_of states s ≡ Some initial → f (unwrap_or o initial) ≡ g (unwrap_or o initial)
  toward_alike low initial None e first = same initial (initial_of-parent states s initial first)
  toward_alike low initial (Some c) e first = same c (this_is s (parent_of states c) (find-passes (λ t. is_this s (parent_of states t)) (path states low) c e))

  down_by_alike : (history : History) (newest : Option StateId) (initial : StateId) → initial_of states s ≡ Some initial → down_by f states s history newest initial ≡ down_by g states s history newest initial
  down_by_alike NoHistory newest initial first = same initial (initial_of-parent states s initial first)
  down_by_alike Shallow None initial first = same initial (initial_of-parent states s initial first)
  down_by_alike Shallow (Some low) initial first = toward_alike low initial (toward states s low) refl first
  down_by_alike Deep None initial first = same initial (initial_of-parent states s initial first)
  down_by_alike Deep (Some low) initial first = refl

  down_alike : (newest o : Option StateId) → initial_of states s ≡ o → down f states s newest o ≡ down g states s newest o
  down_alike newest None first = refl
  down_alike newest (Some initial) first = down_by_alike (history_of states s) newest initial first

stays_by : (states : List State) (s : StateId) (newest o : Option StateId) → initial_of states s ≡ o → is_leaf states s ≡ true → down (λ t. t) states s newest o ≡ s
stays_by states s newest None first leaf = refl
stays_by states s newest (Some initial) first leaf = let e : true ≡ false = sym leaf ∙ ap not (composite_with_initial states s initial first) in cc

resolve_within-settled : (n : ℕ) (states : List State) (newest : StateId → Option StateId) (s : StateId) → IsTree states → length states ≤ length (ancestors states s) + n → resolve_within (suc n) states newest s ≡ resolve_within n states newest s
resolve_within-settled zero states newest s tree enough = stays_by states s (newest s) (initial_of states s) refl (bottom_leaf states s tree (omega arith))
resolve_within-settled (suc n) states newest s tree enough =
    down_alike states (resolve_within (suc n) states newest) (resolve_within n states newest) s
    (λ c up. resolve_within-settled n states newest c tree (omega (arith, deeper states s c tree up)))
    (newest s) (initial_of states s) refl

-- a state stands for itself, or for what the next state down stands for
pub resolve-down : (states : List State) (leaves : List StateId) (s : StateId) → IsTree states → resolve states leaves s ≡ down (resolve states leaves) states s (newest_below states leaves s) (initial_of states s)
resolve-down states leaves s tree = sym (resolve_within-settled (length states) states (newest_below states leaves) s tree (omega arith))
