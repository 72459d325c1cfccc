-- The fault that the check finds is the first, and where it finds none there is none.
use Rattle.std.proofs.Common.{◌≡◌, ℕ, zero, suc, ◌+◌, ◌<◌, ◌≤◌, ◌⊎◌, inl, inr, ⊎_elim, Bool, true, false, List, ◌++◌, length, Option, Some, None, arith, refl, sym, ap, subst, ◌∙◌}
use Rattle.std.specs.Prelude.{cond, find, map}
use Rattle.std.specs.List.{range_with_len}
use Rattle.std.proofs.lemmas.Bool.{cases_lt, cases_order, and_parts, and_from, ltb-true, leb-true, lt-ltb, le-leb}
use Rattle.so_ids.specs.declared.StateId.{StateId}
use Rattle.so_state.specs.declared.states.State.{State}
use Rattle.so_state.specs.declared.faults.TreeFault.{TreeFault}
use Rattle.so_state.specs.declared.faults.TreeFault.TheVariants.{UnknownState, CycleOfParents, TooDeep, NoInitial, TwoInitials}
use Rattle.so_state.specs.States.{number_of, declared, is_declared}
use Rattle.so_state.specs.Fault.{breaks, named, rule_of, ComesBefore, IsFirstFault, tree_fault}
use Rattle.so_state.proofs.Lists.{find-append_some, find-append_none}
use Rattle.so_state.proofs.TreeFacts.{declared_faults-none}

-- the fault of the rule at place k
fault_at : ℕ → StateId → TreeFault
fault_at zero s = UnknownState s
fault_at (suc zero) s = CycleOfParents s
fault_at (suc (suc zero)) s = TooDeep s
fault_at (suc (suc (suc zero))) s = NoInitial s
fault_at (suc (suc (suc (suc k)))) s = TwoInitials s

named-at : (k : ℕ) (s : StateId) → named (fault_at k s) ≡ s
unfolding fault_at
named-at zero s = refl
named-at (suc zero) s = refl
named-at (suc (suc zero)) s = refl
named-at (suc (suc (suc zero))) s = refl
named-at (suc (suc (suc (suc k)))) s = refl

rule_of-at : (k : ℕ) (s : StateId) → k ≤ 4 → rule_of (fault_at k s) ≡ k
unfolding fault_at
rule_of-at zero s h = refl
rule_of-at (suc zero) s h = refl
rule_of-at (suc (suc zero)) s h = refl
rule_of-at (suc (suc (suc zero))) s h = refl
rule_of-at (suc (suc (suc (suc k)))) s h = omega arith

at-itself : (fault : TreeFault) → fault_at (rule_of fault) (named fault) ≡ fault
unfolding fault_at
at-itself (UnknownState s) = refl
at-itself (CycleOfParents s) = refl
at-itself (TooDeep s) = refl
at-itself (NoInitial s) = refl
at-itself (TwoInitials s) = refl

declared_from : (states : List State) (s : StateId) → 0 < s.0 → s.0 ≤ length states → is_declared states s ≡ true
declared_from states s low within = and_from _ _ (lt-ltb 0 s.0 low) (le-leb s.0 (length states) within)

-- ---- one rule

record Least (p : TreeFault → Bool) (k a n : ℕ) (fault : TreeFault) : Type 0 where
  at : StateId
  is : fault ≡ fault_at k at
  low : a < at.0
  high : at.0 ≤ a + n
  broken : p fault ≡ true
  least : (t : StateId) → a < t.0 → t.0 < at.0 → p (fault_at k t) ≡ false

least_by : (p : TreeFault → Bool) (k a n : ℕ) (fault : TreeFault) (b : Bool) → p (fault_at k (number_of a)) ≡ b → cond b (Some (fault_at k (number_of a))) (find p (map (fault_at k) (map number_of (range_with_len (a + 1) n)))) ≡ Some fault → (find p (map (fault_at k) (map number_of (range_with_len (a + 1) n))) ≡ Some fault → Least p k (a + 1) n fault) → Least p k a (suc n) fault
least_by p k a n fault true e found later =
    let same : fault_at k (number_of a) ≡ fault = cc in
    record {
      at = number_of a;
      is = sym same;
      low = omega arith;
      high = omega arith;
      broken = ap p (sym same) ∙ e;
      least = λ t low less. absurd (omega arith);
    }
least_by p k a n fault false e found later =
    let rest = later found in
    record {
      at = rest.at;
      is = rest.is;
      low = omega (arith, rest.low);
      high = omega (arith, rest.high);
      broken = rest.broken;
      least = λ t low less. ⊎_elim
          (λ (here : t.0 < a + 2). let same : a + 1 ≡ t.0 = omega arith in subst (λ (n : ℕ). p (fault_at k (record { 0 = n })) ≡ false) same e)
          (λ (past : a + 2 ≤ t.0). rest.least t (omega arith) less)
          (cases_lt t.0 (a + 2));
    }

least_of : (p : TreeFault → Bool) (k a n : ℕ) (fault : TreeFault) → find p (map (fault_at k) (map number_of (range_with_len a n))) ≡ Some fault → Least p k a n fault
least_of p k a zero fault found = cc
least_of p k a (suc n) fault found = least_by p k a n fault (p (fault_at k (number_of a))) refl found (least_of p k (a + 1) n fault)

-- ---- all rules

-- no state breaks one of the first k rules
record IsClear (states : List State) (k : ℕ) : Type 0 where
  below : (other : TreeFault) → is_declared states (named other) ≡ true → rule_of other < k → breaks states other ≡ false

clear_none : (states : List State) → IsClear states 0
clear_none states = record { below = λ other known h. absurd (omega arith) }

clear_more : (states : List State) (k : ℕ) → IsClear states k → find (breaks states) (map (fault_at k) (declared states)) ≡ None → IsClear states (k + 1)
clear_more states k clear none = record {
  below = λ other known h. ⊎_elim
      (λ (earlier : rule_of other < k). clear.below other known earlier)
      (λ (here : k ≤ rule_of other).
      let same : k ≡ rule_of other = omega arith in
      let parts = and_parts _ _ known in
      let low : 0 < (named other).0 = ltb-true 0 (named other).0 parts.0 in
      let within : (named other).0 ≤ length states = leb-true (named other).0 (length states) parts.1 in
      let itself : fault_at k (named other) ≡ other = ap (λ j. fault_at j (named other)) same ∙ at-itself other in
      ap (breaks states) (sym itself) ∙ declared_faults-none states (fault_at k) none (named other) low within)
      (cases_lt (rule_of other) k);
}

found_first : (states : List State) (k : ℕ) (fault : TreeFault) → k ≤ 4 → IsClear states k → find (breaks states) (map (fault_at k) (declared states)) ≡ Some fault → IsFirstFault states fault
found_first states k fault few clear found =
    let least = least_of (breaks states) k 0 (length states) fault found in
    let names : named fault ≡ least.at = ap named least.is ∙ named-at k least.at in
    let rule : rule_of fault ≡ k = ap rule_of least.is ∙ rule_of-at k least.at few in
    let within : least.at.0 ≤ length states = omega (arith, least.high) in
    record {
      names_declared = ap (is_declared states) names ∙ declared_from states least.at least.low within;
      broken = least.broken;
      first = λ other known before. ⊎_elim
          (λ (earlier : rule_of other < rule_of fault). clear.below other known (omega arith))
          (λ (same : (rule_of other ≡ rule_of fault) × ((named other).0 < (named fault).0)).
          let low : 0 < (named other).0 = ltb-true 0 (named other).0 (and_parts _ _ known).0 in
          let less : (named other).0 < least.at.0 = subst (λ (s : StateId). (named other).0 < s.0) names same.1 in
          let itself : fault_at k (named other) ≡ other = ap (λ j. fault_at j (named other)) (sym rule ∙ sym same.0) ∙ at-itself other in
          ap (breaks states) (sym itself) ∙ least.least (named other) low less)
          before;
    }

-- the faults of the first k + 1 rules
faults_to : List State → ℕ → List TreeFault
faults_to states zero = map (fault_at 0) (declared states)
faults_to states (suc k) = faults_to states k ++ map (fault_at (suc k)) (declared states)

clear_to : (states : List State) (k : ℕ) → find (breaks states) (faults_to states k) ≡ None → IsClear states (suc k)
unfolding faults_to
clear_to states zero none = clear_more states 0 (clear_none states) none
clear_to states (suc k) none =
    let both = find-append_none (breaks states) (faults_to states k) (map (fault_at (suc k)) (declared states)) none in
    subst (λ (n : ℕ). IsClear states n) (omega arith) (clear_more states (suc k) (clear_to states k both.0) both.1)

first_to : (states : List State) (k : ℕ) (fault : TreeFault) → k ≤ 4 → find (breaks states) (faults_to states k) ≡ Some fault → IsFirstFault states fault
unfolding faults_to
first_to states zero fault few found = found_first states 0 fault few (clear_none states) found
first_to states (suc k) fault few found =
    ⊎_elim
    (λ (earlier : find (breaks states) (faults_to states k) ≡ Some fault). first_to states k fault (omega arith) earlier)
    (λ (here : (find (breaks states) (faults_to states k) ≡ None) × (find (breaks states) (map (fault_at (suc k)) (declared states)) ≡ Some fault)). found_first states (suc k) fault few (clear_to states k here.0) here.1)
    (find-append_some (breaks states) (faults_to states k) (map (fault_at (suc k)) (declared states)) fault found)

tree_fault-to : (states : List State) → tree_fault states ≡ find (breaks states) (faults_to states 4)
unfolding tree_fault fault_at faults_to
tree_fault-to states = refl

-- the fault that is found is the first
pub tree_fault-first : (states : List State) (fault : TreeFault) → tree_fault states ≡ Some fault → IsFirstFault states fault
tree_fault-first states fault found = first_to states 4 fault (omega arith) (sym (tree_fault-to states) ∙ found)

rule_few : (fault : TreeFault) → rule_of fault < 5
rule_few (UnknownState s) = omega arith
rule_few (CycleOfParents s) = omega arith
rule_few (TooDeep s) = omega arith
rule_few (NoInitial s) = omega arith
rule_few (TwoInitials s) = omega arith

-- where none is found, no declared state breaks a rule
pub tree_fault-none : (states : List State) (fault : TreeFault) → tree_fault states ≡ None → is_declared states (named fault) ≡ true → breaks states fault ≡ false
tree_fault-none states fault none known = (clear_to states 4 (sym (tree_fault-to states) ∙ none)).below fault known (rule_few fault)

-- there is one first fault
first_same : (states : List State) (a b : TreeFault) → IsFirstFault states a → IsFirstFault states b → a ≡ b
first_same states a b first second =
    let no_earlier : ComesBefore a b → a ≡ b = λ before. let e : true ≡ false = sym first.broken ∙ second.first a first.names_declared before in cc in
    let no_later : ComesBefore b a → a ≡ b = λ before. let e : true ≡ false = sym second.broken ∙ first.first b second.names_declared before in cc in
    ⊎_elim
    (λ (rule : rule_of a ≡ rule_of b).
    ⊎_elim
    (λ (number : (named a).0 ≡ (named b).0).
    let state : named a ≡ named b = ap (λ (n : ℕ). let s : StateId = record { 0 = n } in s) number in
    sym (at-itself a) ∙ (ap (λ j. fault_at j (named a)) rule ∙ (ap (fault_at (rule_of b)) state ∙ at-itself b)))
    (λ (order : ((named a).0 < (named b).0) ⊎ ((named b).0 < (named a).0)). ⊎_elim (λ less. no_earlier (inr (rule, less))) (λ more. no_later (inr (sym rule, more))) order)
    (cases_order (named a).0 (named b).0))
    (λ (order : (rule_of a < rule_of b) ⊎ (rule_of b < rule_of a)). ⊎_elim (λ less. no_earlier (inl less)) (λ more. no_later (inl more)) order)
    (cases_order (rule_of a) (rule_of b))

first_found_by : (states : List State) (fault : TreeFault) (o : Option TreeFault) → tree_fault states ≡ o → IsFirstFault states fault → o ≡ Some fault
first_found_by states fault None e first = let off : true ≡ false = sym first.broken ∙ tree_fault-none states fault e first.names_declared in cc
first_found_by states fault (Some other) e first = ap (λ (f : TreeFault). Some f) (first_same states other fault (tree_fault-first states other e) first)

-- the first fault is found
pub tree_fault-found : (states : List State) (fault : TreeFault) → IsFirstFault states fault → tree_fault states ≡ Some fault
tree_fault-found states fault first = first_found_by states fault (tree_fault states) refl first

none_found_by : (states : List State) (o : Option TreeFault) → tree_fault states ≡ o → ((fault : TreeFault) → is_declared states (named fault) ≡ true → breaks states fault ≡ false) → o ≡ None
none_found_by states None e sound = refl
none_found_by states (Some fault) e sound =
    let first = tree_fault-first states fault e in
    let off : true ≡ false = sym first.broken ∙ sound fault first.names_declared in cc

-- and where no declared state breaks a rule, none is found
pub tree_fault-sound : (states : List State) → ((fault : TreeFault) → is_declared states (named fault) ≡ true → breaks states fault ≡ false) → tree_fault states ≡ None
tree_fault-sound states sound = none_found_by states (tree_fault states) refl sound
