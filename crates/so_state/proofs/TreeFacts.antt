-- What a checked tree gives.
use Rattle.std.proofs.Common.{◌≡◌, ℕ, zero, suc, ◌+◌, ◌-◌, ◌<◌, ◌≤◌, Bool, true, false, List, [], ◌++◌, length, Option, Some, None, arith, refl, sym, ap, subst, ◌∙◌, ⊎_elim}
use Rattle.std.specs.List.{AllByRecursion, range_with_len}
use Rattle.std.specs.Option.{option_and_then}
use Rattle.std.proofs.lemmas.List.Elements.{All-from_recursion}
use Rattle.std.proofs.lemmas.Option.{slice_get_past}
use Rattle.std.specs.Prelude.{not, All, find, map}
use Rattle.std.proofs.lemmas.Bool.{cases_lt, ltb-false, leb-true, ltb-true, and_parts, not-false}
use Rattle.so_ids.specs.declared.StateId.{StateId}
use Rattle.so_state.proofs.Lists.{cond-none, find-append_none}
use Rattle.so_state.specs.declared.states.State.{State}
use Rattle.so_state.specs.declared.faults.TreeFault.{TreeFault}
use Rattle.so_state.specs.declared.faults.TreeFault.TheVariants.{UnknownState, CycleOfParents, TooDeep, NoInitial, TwoInitials}
use Rattle.so_state.specs.States.{number_of, declared, state_of, parent_of, limit_of, and_above, ancestors_within, ancestors, path, depth}
use Rattle.so_state.specs.Fault.{is_known_parent, is_known_limit, names_known_states, breaks, tree_fault, IsTree}

-- ---- the rules

-- a search through the faults of numbered states that finds none
find-numbered_none : (p : TreeFault → Bool) (fault : StateId → TreeFault) (a n k : ℕ) → find p (map fault (map number_of (range_with_len a n))) ≡ None → a ≤ k → k < a + n → p (fault (number_of k)) ≡ false
find-numbered_none p fault a zero k none low high = absurd (omega arith)
find-numbered_none p fault a (suc n) k none low high =
    let both = cond-none (p (fault (number_of a))) (fault (number_of a)) (find p (map fault (map number_of (range_with_len (a + 1) n)))) none in
    ⊎_elim
    (λ (past : a < k). find-numbered_none p fault (a + 1) n k both.1 (omega arith) (omega arith))
    (λ (here : k ≤ a). let e : a ≡ k = omega arith in subst (λ (j : ℕ). p (fault (number_of j)) ≡ false) e both.0)
    (cases_lt a k)

pub declared_faults-none : (states : List State) (fault : StateId → TreeFault) → find (breaks states) (map fault (declared states)) ≡ None → (s : StateId) → 0 < s.0 → s.0 ≤ length states → breaks states (fault s) ≡ false
declared_faults-none states fault none s low high =
    let e : s.0 - 1 + 1 ≡ s.0 = omega arith in
    subst (λ (n : ℕ). breaks states (fault (record { 0 = n })) ≡ false) e (find-numbered_none (breaks states) fault 0 (length states) (s.0 - 1) none (omega arith) (omega arith))

-- each of the five rules holds of a state
pub record Holds (states : List State) (s : StateId) : Type 0 where
  pub known : breaks states (UnknownState s) ≡ false
  pub acyclic : breaks states (CycleOfParents s) ≡ false
  pub shallow : breaks states (TooDeep s) ≡ false
  pub some_initial : breaks states (NoInitial s) ≡ false
  pub one_initial : breaks states (TwoInitials s) ≡ false

pub IsTree-holds : (states : List State) → IsTree states → (s : StateId) → 0 < s.0 → s.0 ≤ length states → Holds states s
unfolding tree_fault
IsTree-holds states tree s low high =
    let five = find-append_none (breaks states) (map UnknownState (declared states) ++ map CycleOfParents (declared states) ++ map TooDeep (declared states) ++ map NoInitial (declared states)) (map TwoInitials (declared states)) tree.sound in
    let four = find-append_none (breaks states) (map UnknownState (declared states) ++ map CycleOfParents (declared states) ++ map TooDeep (declared states)) (map NoInitial (declared states)) five.0 in
    let three = find-append_none (breaks states) (map UnknownState (declared states) ++ map CycleOfParents (declared states)) (map TooDeep (declared states)) four.0 in
    let two = find-append_none (breaks states) (map UnknownState (declared states)) (map CycleOfParents (declared states)) three.0 in
    record {
      known = declared_faults-none states UnknownState two.0 s low high;
      acyclic = declared_faults-none states CycleOfParents two.1 s low high;
      shallow = declared_faults-none states TooDeep three.1 s low high;
      some_initial = declared_faults-none states NoInitial four.1 s low high;
      one_initial = declared_faults-none states TwoInitials five.1 s low high;
    }

-- no state at all
pub IsTree-flat : IsTree []
unfolding tree_fault
IsTree-flat = record { few = omega arith; sound = refl }

-- ---- above

state_of-numbered_past : (states : List State) (n : ℕ) → length states < n → state_of states (record { 0 = n }) ≡ None
state_of-numbered_past states zero h = refl
state_of-numbered_past states (suc k) h = slice_get_past states k (omega arith)

state_of-default : (states : List State) (s : StateId) → s.0 ≡ 0 → state_of states s ≡ None
state_of-default states s e = let P : ℕ → Type 0 = λ n. state_of states (record { 0 = n }) ≡ None in subst P (sym e) refl

parent_of-none : (states : List State) (s : StateId) → state_of states s ≡ None → parent_of states s ≡ None
parent_of-none states s none = ap (option_and_then (λ (state : State). state.parent)) none

pub ancestors_within-top : (n : ℕ) (states : List State) (s : StateId) → parent_of states s ≡ None → ancestors_within n states s ≡ []
ancestors_within-top zero states s top = refl
ancestors_within-top (suc n) states s top = rw top refl

-- a state is declared, or nothing is known of it and it has no parent
pub data Standing (states : List State) (s : StateId) : Type 0 where
  is_top : state_of states s ≡ None → parent_of states s ≡ None → Standing states s
  is_listed : 0 < s.0 → s.0 ≤ length states → Standing states s

undeclared : (states : List State) (s : StateId) → state_of states s ≡ None → Standing states s
undeclared states s none = is_top none (parent_of-none states s none)

pub standing : (states : List State) (s : StateId) → Standing states s
standing states s =
    ⊎_elim
    (λ (past : length states < s.0). undeclared states s (state_of-numbered_past states s.0 past))
    (λ (within : s.0 ≤ length states). ⊎_elim (λ (low : 0 < s.0). is_listed low within) (λ (at_zero : s.0 ≤ 0). undeclared states s (state_of-default states s (omega arith))) (cases_lt 0 s.0))
    (cases_lt (length states) s.0)

-- a path has at most sixteen states
pub path_fits : (states : List State) (s : StateId) → IsTree states → length (path states s) ≤ 16
path_fits states s tree =
    elim (standing states s) [
      | is_top none top ↦ rw (ancestors_within-top (length states) states s top) (omega arith)
      | is_listed low within ↦ ltb-false 16 (depth states s) (IsTree-holds states tree s low within).shallow
    ]

-- ---- parents are declared

known_parent : (states : List State) (parent : Option StateId) (p : StateId) → is_known_parent states parent ≡ true → parent ≡ Some p → (0 < p.0) × (p.0 ≤ length states)
known_parent states None p known e = cc
known_parent states (Some q) p known e =
    let parts = and_parts _ _ known in
    let above : 0 < q.0 = ltb-true 0 q.0 parts.0 in
    let below : q.0 ≤ length states = leb-true q.0 (length states) parts.1 in
    let same : q ≡ p = cc in
    rw (← same) (above, below)

known_names : (states : List State) (o : Option State) (p : StateId) → not (names_known_states states o) ≡ false → option_and_then (λ (state : State). state.parent) o ≡ Some p → (0 < p.0) × (p.0 ≤ length states)
known_names states None p known e = cc
known_names states (Some state) p known e = known_parent states state.parent p (and_parts _ _ (not-false _ known)).0 e

pub parent_declared : (states : List State) (s p : StateId) → IsTree states → parent_of states s ≡ Some p → (0 < p.0) × (p.0 ≤ length states)
parent_declared states s p tree e =
    elim (standing states s) [
      | is_top none top ↦ let gone : None ≡ Some p = sym top ∙ e in cc
      | is_listed low within ↦ known_names states (state_of states s) p (IsTree-holds states tree s low within).known e
    ]

-- ---- targets of time limits are known

known_limit : (states : List State) (limit : Option (ℕ × StateId)) (l : ℕ × StateId) → is_known_limit states limit ≡ true → limit ≡ Some l → (l.1).0 ≤ length states
known_limit states None l known e = cc
known_limit states (Some k) l known e =
    let same : k ≡ l = cc in
    subst (λ (pair : ℕ × StateId). (pair.1).0 ≤ length states) same (leb-true (k.1).0 (length states) known)

known_target : (states : List State) (o : Option State) (l : ℕ × StateId) → not (names_known_states states o) ≡ false → option_and_then (λ (state : State). state.limit) o ≡ Some l → (l.1).0 ≤ length states
known_target states None l known e = cc
known_target states (Some state) l known e = known_limit states state.limit l (and_parts _ _ (not-false _ known)).1 e

pub limit_known : (states : List State) (s : StateId) (l : ℕ × StateId) → IsTree states → limit_of states s ≡ Some l → (l.1).0 ≤ length states
limit_known states s l tree e =
    elim (standing states s) [
      | is_top none top ↦ let gone : None ≡ Some l = sym (ap (option_and_then (λ (state : State). state.limit)) none) ∙ e in cc
      | is_listed low within ↦ known_target states (state_of states s) l (IsTree-holds states tree s low within).known e
    ]

-- ---- ancestors have a place

above_few : (states : List State) (o : Option StateId) (above : StateId → List StateId) → ((p : StateId) → o ≡ Some p → p.0 < 64) → ((p : StateId) → AllByRecursion (λ a. a.0 < 64) (above p)) → AllByRecursion (λ a. a.0 < 64) (and_above above o)
above_few states None above few more = tt
above_few states (Some p) above few more = (few p refl, more p)

ancestors_within-few : (n : ℕ) (states : List State) (s : StateId) → IsTree states → AllByRecursion (λ a. a.0 < 64) (ancestors_within n states s)
ancestors_within-few zero states s tree = tt
ancestors_within-few (suc n) states s tree =
    above_few states (parent_of states s) (ancestors_within n states) (λ p e. let known = parent_declared states s p tree e in omega (arith, known.1, tree.few)) (λ p. ancestors_within-few n states p tree)

-- the ancestors of a state are declared, so that a memory has a place for each
pub ancestors_few : (states : List State) (s : StateId) → IsTree states → All (λ a. a.0 < 64) (ancestors states s)
ancestors_few states s tree = All-from_recursion (λ a. a.0 < 64) (ancestors states s) (ancestors_within-few (length states) states s tree)

pub ruleset fits = (path_fits, ancestors_few)

pub ruleset flats = (IsTree-flat)
