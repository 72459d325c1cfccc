-- The hierarchy of a checked tree: no path comes back to a state, and each goes on as its parent's does.
use Rattle.std.proofs.Common.{◌≡◌, ℕ, zero, suc, ◌+◌, ◌<◌, ◌≤◌, ⊎_elim, true, false, List, [], ◌∷◌, length, Option, Some, None, arith, refl, sym, ap, subst, ◌∙◌}
use Rattle.std.specs.Prelude.{map}
use Rattle.std.specs.List.{AllByRecursion, IsDistinct, range_with_len}
use Rattle.std.specs.Cmp.{IsEquivalence}
use Rattle.std.proofs.lemmas.Bool.{cases_lt, cases_eq, or_cases, eq-eqb, ne_eqb, eqb-true}
use Rattle.std.proofs.lemmas.List.FromFn.{length-map-range_with_len}
use Rattle.std.proofs.lemmas.Map.Made.{length-le_from_is_member}
use Rattle.so_ids.specs.declared.StateId.{StateId}
use Rattle.so_state.specs.declared.states.State.{State}
use Rattle.so_state.specs.States.{same_state, is_on, number_of, declared, parent_of, and_above, ancestors_within, ancestors, path, is_below}
use Rattle.so_state.specs.Fault.{IsTree}
use Rattle.so_state.proofs.Lists.{or_false, or_right, or_more, back_false}
use Rattle.so_state.proofs.TreeFacts.{IsTree-holds, is_top, is_listed, standing, ancestors_within-top, parent_declared}

-- ---- the same state

pub same_state-refl : (s : StateId) → same_state s s ≡ true
same_state-refl s = eq-eqb s.0 s.0 refl

pub same_state-true : (a b : StateId) → same_state a b ≡ true → a ≡ b
same_state-true a b e = ap (λ (n : ℕ). let s : StateId = record { 0 = n } in s) (eqb-true a.0 b.0 e)

pub same_state-symm : (a b : StateId) → same_state a b ≡ same_state b a
same_state-symm a b =
    ⊎_elim
    (λ (e : a.0 ≡ b.0). eq-eqb a.0 b.0 e ∙ sym (eq-eqb b.0 a.0 (sym e)))
    (λ (n : a.0 ≡ b.0 → ⊥). ne_eqb a.0 b.0 n ∙ sym (ne_eqb b.0 a.0 (λ e. n (sym e))))
    (cases_eq a.0 b.0)

same_state-laws : IsEquivalence same_state
same_state-laws = record {
  refl = same_state-refl;
  symm = same_state-symm;
  congr = λ x y z e. ap (λ s. same_state s z) (same_state-true x y e);
}

-- ---- more steps find more

above_more : (f g : StateId → List StateId) (o : Option StateId) (x : StateId) → ((p : StateId) → is_on (f p) x ≡ true → is_on (g p) x ≡ true) → is_on (and_above f o) x ≡ true → is_on (and_above g o) x ≡ true
above_more f g None x more h = h
above_more f g (Some p) x more h = or_more (same_state x p) (is_on (f p) x) (is_on (g p) x) (more p) h

within_more : (n m : ℕ) (states : List State) (s x : StateId) → n ≤ m → is_on (ancestors_within n states s) x ≡ true → is_on (ancestors_within m states s) x ≡ true
within_more zero m states s x h on = cc
within_more (suc n) zero states s x h on = absurd (omega arith)
within_more (suc n) (suc m) states s x h on =
    above_more (ancestors_within n states) (ancestors_within m states) (parent_of states s) x (λ p. within_more n m states p x (omega arith)) on

-- ---- no state twice

pub below-itself : (states : List State) (s : StateId) → IsTree states → is_below states s s ≡ false
below-itself states s tree =
    elim (standing states s) [
      | is_top none top ↦ rw (ancestors_within-top (length states) states s top) refl
      | is_listed low within ↦ (IsTree-holds states tree s low within).acyclic
    ]

pub apart_from : (s : StateId) (list : List StateId) → is_on list s ≡ false → AllByRecursion (λ y. same_state s y ≡ false) list
apart_from s [] none = tt
apart_from s (y ∷ ys) none = let both = or_false (same_state s y) (is_on ys s) none in (both.0, apart_from s ys both.1)

above_distinct : (f : StateId → List StateId) (o : Option StateId) → ((p : StateId) → IsDistinct same_state (p ∷ f p)) → IsDistinct same_state (and_above f o)
unfolding IsDistinct
above_distinct f None distinct = tt
above_distinct f (Some p) distinct = distinct p

pub path_within-distinct : (n : ℕ) (states : List State) (s : StateId) → IsTree states → n ≤ length states → IsDistinct same_state (s ∷ ancestors_within n states s)
unfolding IsDistinct
path_within-distinct zero states s tree h = (tt, tt)
path_within-distinct (suc n) states s tree h =
    let none = back_false (is_on (ancestors_within (suc n) states s) s) (is_below states s s) (within_more (suc n) (length states) states s s h) (below-itself states s tree) in
    (apart_from s (ancestors_within (suc n) states s) none, above_distinct (ancestors_within n states) (parent_of states s) (λ p. path_within-distinct n states p tree (omega arith)))

pub path-distinct : (states : List State) (s : StateId) → IsTree states → IsDistinct same_state (path states s)
path-distinct states s tree = path_within-distinct (length states) states s tree (omega arith)

-- ---- fewer ancestors than states

declared_on : (a n : ℕ) (q : StateId) → a < q.0 → q.0 ≤ a + n → is_on (map number_of (range_with_len a n)) q ≡ true
declared_on a zero q low high = absurd (omega arith)
declared_on a (suc n) q low high =
    ⊎_elim
    (λ (here : q.0 < a + 2). let e : q.0 ≡ a + 1 = omega arith in rw (eq-eqb q.0 (a + 1) e) refl)
    (λ (later : a + 2 ≤ q.0). or_right (same_state q (number_of a)) _ (declared_on (a + 1) n q (omega arith) (omega arith)))
    (cases_lt q.0 (a + 2))

above_listed : (states : List State) (f : StateId → List StateId) (o : Option StateId) (q : StateId) → ((p : StateId) → o ≡ Some p → (0 < p.0) × (p.0 ≤ length states)) → ((p : StateId) → is_on (f p) q ≡ true → (0 < q.0) × (q.0 ≤ length states)) → is_on (and_above f o) q ≡ true → (0 < q.0) × (q.0 ≤ length states)
above_listed states f None q known more on = cc
above_listed states f (Some p) q known more on =
    ⊎_elim
    (λ (here : same_state q p ≡ true). let e : p ≡ q = sym (same_state-true q p here) in subst (λ (s : StateId). (0 < s.0) × (s.0 ≤ length states)) e (known p refl))
    (λ (later : is_on (f p) q ≡ true). more p later)
    (or_cases (same_state q p) (is_on (f p) q) on)

ancestor_listed : (n : ℕ) (states : List State) (s q : StateId) → IsTree states → is_on (ancestors_within n states s) q ≡ true → (0 < q.0) × (q.0 ≤ length states)
ancestor_listed zero states s q tree on = cc
ancestor_listed (suc n) states s q tree on =
    above_listed states (ancestors_within n states) (parent_of states s) q (λ p e. parent_declared states s p tree e) (λ p. ancestor_listed n states p q tree) on

-- a state that lies above another one is declared
pub above_is_declared : (states : List State) (s q : StateId) → IsTree states → is_below states q s ≡ true → (0 < q.0) × (q.0 ≤ length states)
above_is_declared states s q tree on = ancestor_listed (length states) states s q tree on

path_listed : (states : List State) (s q : StateId) → IsTree states → 0 < s.0 → s.0 ≤ length states → is_on (path states s) q ≡ true → is_on (declared states) q ≡ true
path_listed states s q tree low within on =
    ⊎_elim
    (λ (here : same_state q s ≡ true). let e : q.0 ≡ s.0 = eqb-true q.0 s.0 here in declared_on 0 (length states) q (omega arith) (omega arith))
    (λ (above : is_below states q s ≡ true). let h : (0 < q.0) × (q.0 ≤ length states) = above_is_declared states s q tree above in declared_on 0 (length states) q (omega arith) (omega arith))
    (or_cases (same_state q s) (is_below states q s) on)

pub depth-few : (states : List State) (s : StateId) → IsTree states → 0 < s.0 → s.0 ≤ length states → length (path states s) ≤ length states
depth-few states s tree low within =
    let few : length (path states s) ≤ length (declared states) = length-le_from_is_member same_state-laws (path states s) (declared states) (path-distinct states s tree) (λ q. path_listed states s q tree low within) in
    omega (arith, few, length-map-range_with_len number_of 0 (length states))

-- ---- a path goes on as the parent's

above_settled : (f g : StateId → List StateId) (o : Option StateId) (n : ℕ) → length (and_above f o) < suc n → ((p : StateId) → length (f p) < n → g p ≡ f p) → and_above g o ≡ and_above f o
above_settled f g None n short same = refl
above_settled f g (Some p) n short same = ap (λ l. p ∷ l) (same p (omega arith))

within_settled : (n m : ℕ) (states : List State) (s : StateId) → length (ancestors_within n states s) < n → n ≤ m → ancestors_within m states s ≡ ancestors_within n states s
within_settled zero m states s short h = absurd (omega arith)
within_settled (suc n) zero states s short h = absurd (omega arith)
within_settled (suc n) (suc m) states s short h =
    above_settled (ancestors_within n states) (ancestors_within m states) (parent_of states s) n short (λ p less. within_settled n m states p less (omega arith))

-- the ancestors of a state are its parent and the parent's ancestors
pub ancestors-above : (states : List State) (s : StateId) → IsTree states → ancestors states s ≡ and_above (ancestors states) (parent_of states s)
ancestors-above states s tree =
    elim (standing states s) [
      | is_top none top ↦ rw (ancestors_within-top (length states) states s top, top) refl
      | is_listed low within ↦ sym (within_settled (length states) (suc (length states)) states s (depth-few states s tree low within) (omega arith))
    ]

pub path-below : (states : List State) (s p : StateId) → IsTree states → parent_of states s ≡ Some p → path states s ≡ s ∷ path states p
path-below states s p tree up = ap (λ l. s ∷ l) (ancestors-above states s tree ∙ ap (and_above (ancestors states)) up)

pub path-top : (states : List State) (s : StateId) → parent_of states s ≡ None → path states s ≡ s ∷ []
path-top states s top = ap (λ l. s ∷ l) (ancestors_within-top (length states) states s top)
