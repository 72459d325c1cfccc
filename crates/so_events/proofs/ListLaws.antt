-- Tests that agree on all of a list.
use Rattle.std.proofs.Common.{◌≡◌, ℕ, zero, suc, ◌<◌, List, [], ◌∷◌, length, get_or, Bool, true, false, ◌&&◌, ◌||◌, Some, arith, refl, inl, inr}
use Rattle.std.specs.Prelude.{slice_get}
use Rattle.std.specs.List.{filter, find, AllByRecursion}
use Rattle.std.proofs.lemmas.Bool.{cases_Bool}

pub filter_same_each : {X : Type 0} (p q : X → Bool) (xs : List X) → AllByRecursion (λ x. p x ≡ q x) xs → filter p xs ≡ filter q xs
filter_same_each p q [] all = refl
filter_same_each p q (x ∷ xs) all = rw (all.0, filter_same_each p q xs all.1) refl

pub find_same_each : {X : Type 0} (p q : X → Bool) (xs : List X) → AllByRecursion (λ x. p x ≡ q x) xs → find p xs ≡ find q xs
find_same_each p q [] all = refl
find_same_each p q (x ∷ xs) all = rw (all.0, find_same_each p q xs all.1) refl

pub find-filtered : {X : Type 0} (p q : X → Bool) (xs : List X) → find p (filter q xs) ≡ find (λ x. q x && p x) xs
find-filtered p q [] = refl
find-filtered p q (x ∷ xs) =
    elim (cases_Bool (q x)) [
      | inl t ↦ rw (t, find-filtered p q xs) refl
      | inr f ↦ rw (f, find-filtered p q xs) refl
    ]

-- what holds at each number holds at each element's own
pub each_diagonal : {X : Type 0} (F : ℕ → X → Type 0) (g : X → ℕ) (xs : List X) → ((n : ℕ) → AllByRecursion (F n) xs) → AllByRecursion (λ x. F (g x) x) xs
each_diagonal F g [] all = tt
each_diagonal F g (x ∷ xs) all = ((all (g x)).0, each_diagonal F g xs (λ n. (all n).1))

pub or-right : (b : Bool) → (b || true) ≡ true
or-right true = refl
or-right false = refl

pub or-nothing : (b : Bool) → (b || false) ≡ b
or-nothing true = refl
or-nothing false = refl

pub and-right : (b : Bool) → (b && true) ≡ b
and-right true = refl
and-right false = refl

-- what is got is the element at a number
pub got : {X : Type 0} (xs : List X) (i : ℕ) (d : X) → i < length xs → slice_get xs i ≡ Some (get_or xs i d)
got [] i d l = absurd (omega arith)
got (x ∷ xs) zero d l = refl
got (x ∷ xs) (suc i) d l = got xs i d (omega (arith, l))
