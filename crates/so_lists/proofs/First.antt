-- Firsts: of two, of the numbers below a bound.
use Rattle.std.proofs.Common.{◌≡◌, ℕ, zero, suc, ◌<◌, List, [], ◌∷◌, true, Option, Some, None, arith, refl, ◌∙◌, ap, inl, inr}
use Rattle.std.specs.Option.{option_map}
use Rattle.std.proofs.lemmas.Bool.{cases_lt}
use Rattle.so_lists.specs.Lists.{is_empty, or_else, first_below}

pub or_else-none : {X : Type 0} (a b : Option X) → or_else a b ≡ None → (a ≡ None) × (b ≡ None)
or_else-none None b e = (refl, e)
or_else-none (Some x) b e = cc

-- nothing at the end
pub or_else-last : {X : Type 0} (b : Option X) → b ≡ or_else b None
or_else-last None = refl
or_else-last (Some x) = refl

-- where one excludes the other, their order does not matter
pub or_else-swap : {X : Type 0} (a b : Option X) → ((x : X) → a ≡ Some x → b ≡ None) → or_else a b ≡ or_else b a
or_else-swap None b h = or_else-last b
or_else-swap (Some x) b h = rw (h x refl) refl

pub first_below-none : {X : Type 0} (f : ℕ → Option X) (n : ℕ) → ((k : ℕ) → k < n → f k ≡ None) → first_below f n ≡ None
first_below-none f zero e = refl
first_below-none f (suc n) e = rw (first_below-none f n (λ k l. e k (omega arith)), e n (omega arith)) refl

-- where there is no first, there is none at any number
pub none-first_below : {X : Type 0} (f : ℕ → Option X) (n : ℕ) → first_below f n ≡ None → (k : ℕ) → k < n → f k ≡ None
none-first_below f zero e k l = absurd (omega arith)
none-first_below f (suc n) e k l =
    let p = or_else-none (first_below f n) (f n) e in
    elim (cases_lt k n) [
      | inl before ↦ none-first_below f n p.0 k before
      | inr last ↦ (let same : k ≡ n = omega arith in ap f same ∙ p.1)
    ]

-- where there is none before a number, the first is what stands there
pub first_below-from : {X : Type 0} (f : ℕ → Option X) (n k : ℕ) (x : X) → k < n → first_below f k ≡ None → f k ≡ Some x → first_below f n ≡ Some x
first_below-from f zero k x l none e = absurd (omega arith)
first_below-from f (suc n) k x l none e =
    elim (cases_lt k n) [
      | inl earlier ↦ rw (first_below-from f n k x earlier none e) refl
      | inr last ↦ (let same : n ≡ k = omega arith in rw (ap (first_below f) same ∙ none, ap f same ∙ e) refl)
    ]

-- what is first stands at some number, and there is none before it
some_case : {X : Type 0} (f : ℕ → Option X) (n : ℕ) (x : X) (o : Option X) → first_below f n ≡ o → or_else o (f n) ≡ Some x →
    (first_below f n ≡ Some x → (k : ℕ) × (k < n) × (f k ≡ Some x) × (first_below f k ≡ None)) → (k : ℕ) × (k < suc n) × (f k ≡ Some x) × (first_below f k ≡ None)
some_case f n x None is e rest = (n, omega arith, e, is)
some_case f n x (Some y) is e rest = let r = rest (is ∙ e) in (r.0, (let l = r.1 in omega arith), r.2, r.3)

pub some-first_below : {X : Type 0} (f : ℕ → Option X) (n : ℕ) (x : X) → first_below f n ≡ Some x → (k : ℕ) × (k < n) × (f k ≡ Some x) × (first_below f k ≡ None)
some-first_below f zero x e = absurd cc
some-first_below f (suc n) x e = some_case f n x (first_below f n) refl e (some-first_below f n x)

pub first_below-some : {X : Type 0} (f : ℕ → Option X) (n k : ℕ) (x : X) → k < n → f k ≡ Some x → ((j : ℕ) → j < k → f j ≡ None) → first_below f n ≡ Some x
first_below-some f n k x l e before = first_below-from f n k x l (first_below-none f k before) e

pub option_map-none : {X Y : Type 0} (f : X → Y) (o : Option X) → option_map f o ≡ None → o ≡ None
option_map-none f None e = refl
option_map-none f (Some x) e = cc

pub empty-list : {X : Type 0} (xs : List X) → is_empty xs ≡ true → xs ≡ []
empty-list [] e = refl
empty-list (x ∷ xs) e = cc
