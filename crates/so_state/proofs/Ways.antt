-- What a switch leaves and enters: the two ends of two paths that meet.
use Rattle.std.proofs.Common.{◌≡◌, ℕ, zero, suc, ◌≤◌, Bool, true, false, ◌||◌, ◌&&◌, List, [], ◌∷◌, ◌++◌, length, Option, Some, None, arith, refl, sym, ap, subst, ◌∙◌}
use Rattle.std.specs.Prelude.{not, filter, reverse}
use Rattle.std.specs.List.{AllByRecursion, IsDistinct}
use Rattle.std.proofs.lemmas.List.{append-nil, reverse-reverse}
use Rattle.std.proofs.lemmas.List.Elements.{filter-append}
use Rattle.std.proofs.lemmas.List.Folds.{list_any-append}
use Rattle.std.proofs.lemmas.Map.Views.{any-filter_same}
use Rattle.so_ids.specs.declared.StateId.{StateId}
use Rattle.so_state.specs.declared.states.State.{State}
use Rattle.so_state.specs.States.{same_state, is_on, parent_of, path}
use Rattle.so_state.specs.Fault.{IsTree}
use Rattle.so_state.specs.Plan.{exits, enters, staying}
use Rattle.so_state.proofs.Lists.{second_half, and_swap, or_right, filter_on, filter_off, filter-all, filter-none, filter-alike, map_all, list_any-reverse}
use Rattle.so_state.proofs.Ancestry.{same_state-refl, same_state-true, same_state-symm, apart_from, path-distinct, path-below, path-top}
use Rattle.so_state.proofs.Resolved.{after, path_ends}

-- ---- lists of states

-- each of a list is on it
all_on : (xs : List StateId) → AllByRecursion (λ x. is_on xs x ≡ true) xs
all_on [] = tt
all_on (x ∷ xs) =
    (ap (λ b. b || is_on xs x) (same_state-refl x), map_all (λ y. is_on xs y ≡ true) (λ y. is_on (x ∷ xs) y ≡ true) xs (λ y on. or_right (same_state y x) (is_on xs y) on) (all_on xs))

not_on : (s : StateId) (xs : List StateId) → AllByRecursion (λ y. same_state s y ≡ false) xs → is_on xs s ≡ false
not_on s [] apart = refl
not_on s (y ∷ ys) apart = ap (λ b. b || is_on ys s) apart.0 ∙ not_on s ys apart.1

-- where no state comes twice, the front has none of the rest
front_apart : (front rest : List StateId) → IsDistinct same_state (front ++ rest) → AllByRecursion (λ x. is_on rest x ≡ false) front
unfolding IsDistinct
front_apart [] rest distinct = tt
front_apart (x ∷ front) rest distinct =
    (not_on x rest (second_half (λ y. same_state x y ≡ false) front rest distinct.0), front_apart front rest distinct.1)

-- ---- two paths

-- what the lists have of their own comes first, and then what both have
record Splits (xs ys : List StateId) : Type 0 where
  left : xs ≡ filter (λ s. not (is_on ys s)) xs ++ filter (is_on ys) xs
  right : ys ≡ filter (λ s. not (is_on xs s)) ys ++ filter (is_on ys) xs

-- the one list ends in the other
splits_end : (xs ys front : List StateId) → ys ≡ front ++ xs → IsDistinct same_state ys → Splits xs ys
splits_end xs ys front e distinct =
    let within : AllByRecursion (λ x. is_on ys x ≡ true) xs = map_all (λ x. is_on xs x ≡ true) (λ x. is_on ys x ≡ true) xs (λ x on. ap (λ l. is_on l x) e ∙ (list_any-append (same_state x) front xs ∙ or_right (is_on front x) (is_on xs x) on)) (all_on xs) in
    let shared : filter (is_on ys) xs ≡ xs = filter-all (is_on ys) xs within in
    let none : filter (λ s. not (is_on ys s)) xs ≡ [] = filter-none (λ s. not (is_on ys s)) xs (map_all (λ x. is_on ys x ≡ true) (λ x. not (is_on ys x) ≡ false) xs (λ x on. ap not on) within) in
    let apart : AllByRecursion (λ x. is_on xs x ≡ false) front = front_apart front xs (subst (λ (l : List StateId). IsDistinct same_state l) e distinct) in
    let first : filter (λ s. not (is_on xs s)) front ≡ front = filter-all (λ s. not (is_on xs s)) front (map_all (λ x. is_on xs x ≡ false) (λ x. not (is_on xs x) ≡ true) front (λ x off. ap not off) apart) in
    let last : filter (λ s. not (is_on xs s)) xs ≡ [] = filter-none (λ s. not (is_on xs s)) xs (map_all (λ x. is_on xs x ≡ true) (λ x. not (is_on xs x) ≡ false) xs (λ x on. ap not on) (all_on xs)) in
    let own : filter (λ s. not (is_on xs s)) ys ≡ front =
    ap (filter (λ s. not (is_on xs s))) e ∙ (filter-append (λ s. not (is_on xs s)) front xs ∙ (ap (λ l. l ++ filter (λ s. not (is_on xs s)) xs) first ∙ (ap (λ l. front ++ l) last ∙ append-nil front))) in
    record {
      left = sym (ap (λ l. l ++ filter (is_on ys) xs) none ∙ shared);
      right = e ∙ sym (ap (λ l. l ++ filter (is_on ys) xs) own ∙ ap (λ l. front ++ l) shared);
    }

splits_none : (ys : List StateId) → Splits [] ys
splits_none ys = record {
  left = refl;
  right = sym (append-nil (filter (λ _. true) ys) ∙ filter-all (λ _. true) ys (always ys));
}
  where
    always : (l : List StateId) → AllByRecursion (λ _. true ≡ true) l
    always [] = tt
    always (x ∷ xs) = (refl, always xs)

-- one more that is not shared
splits_more : (s : StateId) (xs ys : List StateId) → is_on ys s ≡ false → Splits xs ys → Splits (s ∷ xs) ys
splits_more s xs ys off split =
    let own : filter (λ t. not (is_on ys t)) (s ∷ xs) ≡ s ∷ filter (λ t. not (is_on ys t)) xs = filter_on (λ t. not (is_on ys t)) s xs (ap not off) in
    let shared : filter (is_on ys) (s ∷ xs) ≡ filter (is_on ys) xs = filter_off (is_on ys) s xs off in
    let same : filter (λ t. not (is_on (s ∷ xs) t)) ys ≡ filter (λ t. not (is_on xs t)) ys =
    filter-alike (λ t. not (is_on (s ∷ xs) t)) (λ t. not (is_on xs t)) ys (map_all (λ t. same_state s t ≡ false) (λ t. not (is_on (s ∷ xs) t) ≡ not (is_on xs t)) ys (λ t apart. ap (λ b. not (b || is_on xs t)) (same_state-symm t s ∙ apart)) (apart_from s ys off)) in
    record {
      left = ap (λ l. s ∷ l) split.left ∙ sym (ap (λ l. l ++ filter (is_on ys) (s ∷ xs)) own ∙ ap (λ l. (s ∷ filter (λ t. not (is_on ys t)) xs) ++ l) shared);
      right = split.right ∙ sym (ap (λ l. l ++ filter (is_on ys) (s ∷ xs)) same ∙ ap (λ l. filter (λ t. not (is_on xs t)) ys ++ l) shared);
    }

splits_met : (states : List State) (s leaf : StateId) → IsTree states → is_on (path states leaf) s ≡ true → Splits (path states s) (path states leaf)
splits_met states s leaf tree on =
    elim (path_ends states leaf s tree on) [ after front e ↦ splits_end (path states s) (path states leaf) front e (path-distinct states leaf tree) ]

splits_by : (n : ℕ) (states : List State) (s leaf : StateId) → IsTree states → length (path states s) ≤ n → (b : Bool) → is_on (path states leaf) s ≡ b → (o : Option StateId) → parent_of states s ≡ o → Splits (path states s) (path states leaf)
splits_by zero states s leaf tree few b met o up = absurd (omega arith)
splits_by (suc n) states s leaf tree few true met o up = splits_met states s leaf tree met
splits_by (suc n) states s leaf tree few false met None up =
    subst (λ (l : List StateId). Splits l (path states leaf)) (sym (path-top states s up)) (splits_more s [] (path states leaf) met (splits_none (path states leaf)))
splits_by (suc n) states s leaf tree few false met (Some p) up =
    let shorter : length (path states p) ≤ n = omega (arith, ap length (path-below states s p tree up)) in
    subst (λ (l : List StateId). Splits l (path states leaf)) (sym (path-below states s p tree up)) (splits_more s (path states p) (path states leaf) met (splits_by n states p leaf tree shorter (is_on (path states leaf) p) refl (parent_of states p) refl))

paths_split : (states : List State) (from leaf : StateId) → IsTree states → Splits (path states from) (path states leaf)
paths_split states from leaf tree = splits_by (length (path states from)) states from leaf tree (omega arith) (is_on (path states leaf) from) refl (parent_of states from) refl

pub path-exits : (states : List State) (from leaf : StateId) → IsTree states → path states from ≡ exits states from leaf ++ staying states from leaf
path-exits states from leaf tree = (paths_split states from leaf tree).left

pub path-enters : (states : List State) (from leaf : StateId) → IsTree states → path states leaf ≡ reverse (enters states from leaf) ++ staying states from leaf
path-enters states from leaf tree =
    (paths_split states from leaf tree).right ∙ ap (λ l. l ++ staying states from leaf) (sym (reverse-reverse (filter (λ s. not (is_on (path states from) s)) (path states leaf))))

-- ---- which states they are

on_outside : (xs ys : List StateId) (s : StateId) → is_on (filter (λ t. not (is_on ys t)) xs) s ≡ (is_on xs s && not (is_on ys s))
on_outside xs ys s = any-filter_same (same_state s) (λ t. not (is_on ys t)) (not (is_on ys s)) (λ t same. ap (λ k. not (is_on ys k)) (sym (same_state-true s t same))) xs ∙ and_swap (not (is_on ys s)) (is_on xs s)

pub is_on-exits : (states : List State) (from leaf s : StateId) → is_on (exits states from leaf) s ≡ (is_on (path states from) s && not (is_on (path states leaf) s))
is_on-exits states from leaf s = on_outside (path states from) (path states leaf) s

pub is_on-enters : (states : List State) (from leaf s : StateId) → is_on (enters states from leaf) s ≡ (is_on (path states leaf) s && not (is_on (path states from) s))
is_on-enters states from leaf s = list_any-reverse (same_state s) _ ∙ on_outside (path states leaf) (path states from) s
