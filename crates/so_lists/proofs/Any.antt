-- Whether an element passes a test.
use Rattle.std.proofs.Common.{◌≡◌, ℕ, ◌+◌, ◌<◌, List, [], ◌∷◌, map, Bool, true, false, ◌&&◌, ◌||◌, cond, arith, refl, ◌∙◌, ap}
use Rattle.std.specs.List.{filter, list_any}
use Rattle.std.proofs.lemmas.List.Folds.{list_any_at, list_any-append}
use Rattle.so_lists.specs.Lists.{each_below}
use Rattle.so_lists.proofs.EachBelow.{length-each_below, get_or-each_below, each_below-next, each_below-none}

pub any-each_below : {X : Type 0} (q : X → Bool) (f : ℕ → X) (n k : ℕ) → k < n → q (f k) ≡ true → list_any q (each_below f n) ≡ true
any-each_below q f n k l is =
    list_any_at q (each_below f n) k (f k) (omega (arith, length-each_below f n, l)) (ap q (get_or-each_below f n k (f k) l) ∙ is)

-- none passes below 0, nor below the next number where the one there doesn't
pub none-each_below : {X : Type 0} (q : X → Bool) (f : ℕ → X) → list_any q (each_below f 0) ≡ false
none-each_below q f = rw (each_below-none f) refl

pub none-next : {X : Type 0} (q : X → Bool) (f : ℕ → X) (n : ℕ) → list_any q (each_below f n) ≡ false → q (f n) ≡ false → list_any q (each_below f (n + 1)) ≡ false
none-next q f n before here = rw (each_below-next f n, list_any-append q (each_below f n) (f n ∷ []), before, here) refl

any_case : {X Y : Type 0} (q : Y → Bool) (f : X → Y) (b : Bool) (x : X) (xs : List X) (r : Bool) → list_any q (map f xs) ≡ r →
    list_any q (map f (cond b (x ∷ xs) xs)) ≡ ((b && q (f x)) || r)
any_case q f true x xs r is = ap (λ c. q (f x) || c) is
any_case q f false x xs r is = is

-- among those that a filter leaves
pub any-filter : {X Y : Type 0} (p : X → Bool) (q : Y → Bool) (f : X → Y) (xs : List X) → list_any q (map f (filter p xs)) ≡ list_any (λ x. p x && q (f x)) xs
any-filter p q f [] = refl
any-filter p q f (x ∷ xs) = any_case q f (p x) x (filter p xs) (list_any (λ y. p y && q (f y)) xs) (any-filter p q f xs)
