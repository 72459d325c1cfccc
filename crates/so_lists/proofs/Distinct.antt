-- Lists in which none is the same as one after it.
use Rattle.std.proofs.Common.{◌≡◌, ℕ, ◌<◌, List, [], ◌∷◌, ◌++◌, Bool, true, false, cond, arith, refl}
use Rattle.std.specs.List.{filter, list_any, AllByRecursion, IsDistinct}
use Rattle.std.proofs.lemmas.Bool.{or_parts}
use Rattle.std.proofs.lemmas.Map.Keys.{IsDistinct-from_apart}
use Rattle.so_lists.specs.Lists.{each_below}
use Rattle.so_lists.proofs.EachBelow.{length-each_below, get_or-each_below}
use Rattle.so_lists.proofs.Filters.{each-append, each-weaker, each-filter}

-- none passes a test that fails for each, and the other way round
pub none_passes : {X : Type 0} (p : X → Bool) (xs : List X) → list_any p xs ≡ false → AllByRecursion (λ x. p x ≡ false) xs
none_passes p [] e = tt
none_passes p (x ∷ xs) e = let parts = or_parts (p x) (list_any p xs) e in (parts.0, none_passes p xs parts.1)

pub passes_none : {X : Type 0} (p : X → Bool) (xs : List X) → AllByRecursion (λ x. p x ≡ false) xs → list_any p xs ≡ false
passes_none p [] all = refl
passes_none p (x ∷ xs) all = rw (all.0, passes_none p xs all.1) refl

-- a part of them
cond_distinct : {X : Type 0} (e : X → X → Bool) (b : Bool) (x : X) (xs : List X) → AllByRecursion (λ y. e x y ≡ false) xs → IsDistinct e xs → IsDistinct e (cond b (x ∷ xs) xs)
unfolding IsDistinct
cond_distinct e true x xs apart rest = (apart, rest)
cond_distinct e false x xs apart rest = rest

pub distinct-filter : {X : Type 0} (e : X → X → Bool) (p : X → Bool) (xs : List X) → IsDistinct e xs → IsDistinct e (filter p xs)
unfolding IsDistinct
distinct-filter e p [] d = tt
distinct-filter e p (x ∷ xs) d = cond_distinct e (p x) x (filter p xs) (each-filter (λ y. e x y ≡ false) p xs d.0) (distinct-filter e p xs d.1)

-- two lists
pub distinct-append : {X : Type 0} (e : X → X → Bool) (xs ys : List X) → IsDistinct e xs → IsDistinct e ys → AllByRecursion (λ x. AllByRecursion (λ y. e x y ≡ false) ys) xs → IsDistinct e (xs ++ ys)
unfolding IsDistinct
distinct-append e [] ys c d apart = d
distinct-append e (x ∷ xs) ys c d apart = (each-append (λ y. e x y ≡ false) xs ys c.0 apart.0, distinct-append e xs ys c.1 d apart.1)

-- one more at the end
pub distinct-push : {X : Type 0} (e : X → X → Bool) (xs : List X) (y : X) → IsDistinct e xs → AllByRecursion (λ x. e x y ≡ false) xs → IsDistinct e (xs ++ y ∷ [])
unfolding IsDistinct
distinct-push e xs y d apart = distinct-append e xs (y ∷ []) d (tt, tt) (each-weaker (λ x. e x y ≡ false) (λ x. AllByRecursion (λ z. e x z ≡ false) (y ∷ [])) (λ x f. (f, tt)) xs apart)

-- and the last is none of those before it
end_of : {X : Type 0} (P : X → Type 0) (xs : List X) (y : X) → AllByRecursion P (xs ++ y ∷ []) → P y
end_of P [] y all = all.0
end_of P (x ∷ xs) y all = end_of P xs y all.1

pub last_apart : {X : Type 0} (e : X → X → Bool) (xs : List X) (y : X) → IsDistinct e (xs ++ y ∷ []) → AllByRecursion (λ x. e x y ≡ false) xs
unfolding IsDistinct
last_apart e [] y d = tt
last_apart e (x ∷ xs) y d = (end_of (λ z. e x z ≡ false) xs y d.0, last_apart e xs y d.1)

-- what a function gives for numbers that differ
pub distinct-each_below : {X : Type 0} (e : X → X → Bool) (f : ℕ → X) (n : ℕ) → ((i j : ℕ) → i < j → j < n → e (f i) (f j) ≡ false) → IsDistinct e (each_below f n)
distinct-each_below e f n apart =
    IsDistinct-from_apart e (each_below f n)
    (λ i j d l m.
    let last : j < n = omega (arith, m, length-each_below f n) in
    rw (get_or-each_below f n i d (omega (arith, l, last)), get_or-each_below f n j d last) (apart i j l last))
