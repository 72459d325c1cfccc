-- How many elements of a list pass a test.
use Rattle.std.proofs.Common.{◌≡◌, ℕ, ◌+◌, List, [], ◌∷◌, ◌++◌, length, Bool, true, false, not, ◌&&◌, cond, refl, arith, sym, ◌∙◌, ap}
use Rattle.std.specs.List.{count_by, filter, AllByRecursion}
use Rattle.std.proofs.lemmas.List.Sums.{sum_by_push, sum_by-cons, sum_by-append, length-filter}
use Rattle.std.proofs.lemmas.List.Filters.{length-filter_both}
use Rattle.so_lists.specs.Lists.{each_below}
use Rattle.so_lists.proofs.EachBelow.{each_below-none, each_below-next}
use Rattle.so_lists.proofs.Filters.{filter-filter, filter-swap, filter_keeps, filter_none}

-- ---- of a list by number

pub count-none : {X : Type 0} (p : X → Bool) (f : ℕ → X) → count_by p (each_below f 0) ≡ 0
count-none p f = rw (each_below-none f) refl

count-next : {X : Type 0} (p : X → Bool) (f : ℕ → X) (n : ℕ) → count_by p (each_below f (n + 1)) ≡ count_by p (each_below f n) + cond (p (f n)) 1 0
count-next p f n = rw (each_below-next f n) (sum_by_push (λ x. cond (p x) 1 0) (each_below f n) (f n))

-- one more where the next passes, else as many
pub count-more : {X : Type 0} (p : X → Bool) (f : ℕ → X) (n : ℕ) → p (f n) ≡ true → count_by p (each_below f (n + 1)) ≡ count_by p (each_below f n) + 1
count-more p f n is = count-next p f n ∙ ap (λ b. count_by p (each_below f n) + cond b 1 0) is

pub count-same : {X : Type 0} (p : X → Bool) (f : ℕ → X) (n : ℕ) → p (f n) ≡ false → count_by p (each_below f (n + 1)) ≡ count_by p (each_below f n)
count-same p f n is =
    let next = count-next p f n ∙ ap (λ b. count_by p (each_below f n) + cond b 1 0) is in
    omega (arith, next)

-- ---- of lists

pub count-append : {X : Type 0} (p : X → Bool) (xs ys : List X) → count_by p (xs ++ ys) ≡ count_by p xs + count_by p ys
count-append p xs ys = sum_by-append (λ x. cond (p x) 1 0) xs ys

pub count-filter : {X : Type 0} (p q : X → Bool) (xs : List X) → count_by p (filter q xs) ≡ count_by (λ x. q x && p x) xs
count-filter p q xs = sym (length-filter p (filter q xs)) ∙ (ap length (filter-filter p q xs) ∙ length-filter (λ x. q x && p x) xs)

-- those that pass another test, and those that don't
pub count-parts : {X : Type 0} (p q : X → Bool) (xs : List X) → count_by p (filter q xs) + count_by p (filter (λ x. not (q x)) xs) ≡ count_by p xs
count-parts p q xs =
    let both : length (filter q (filter p xs)) + length (filter (λ x. not (q x)) (filter p xs)) ≡ length (filter p xs) = length-filter_both q (λ x. not (q x)) (λ x. refl) (filter p xs) in
    let one : count_by p (filter q xs) ≡ length (filter q (filter p xs)) = sym (length-filter p (filter q xs)) ∙ ap length (filter-swap p q xs) in
    let other : count_by p (filter (λ x. not (q x)) xs) ≡ length (filter (λ x. not (q x)) (filter p xs)) = sym (length-filter p (filter (λ x. not (q x)) xs)) ∙ ap length (filter-swap p (λ x. not (q x)) xs) in
    omega (arith, one, other, both, length-filter p xs)

pub count-all : {X : Type 0} (p : X → Bool) (xs : List X) → AllByRecursion (λ x. p x ≡ true) xs → count_by p xs ≡ length xs
count-all p xs all = sym (length-filter p xs) ∙ ap length (filter_keeps p xs all)

pub count-zero : {X : Type 0} (p : X → Bool) (xs : List X) → AllByRecursion (λ x. p x ≡ false) xs → count_by p xs ≡ 0
count-zero p xs all = sym (length-filter p xs) ∙ ap length (filter_none p xs all)

none_case : {X : Type 0} (p : X → Bool) (x : X) (xs : List X) (b : Bool) → p x ≡ b → cond b 1 0 + count_by p xs ≡ 0 → (count_by p xs ≡ 0 → AllByRecursion (λ y. p y ≡ false) xs) → AllByRecursion (λ y. p y ≡ false) (x ∷ xs)
none_case p x xs true is none rest = absurd (omega (arith, none))
none_case p x xs false is none rest = (is, rest (omega (arith, none)))

pub none-counted : {X : Type 0} (p : X → Bool) (xs : List X) → count_by p xs ≡ 0 → AllByRecursion (λ x. p x ≡ false) xs
none-counted p [] none = tt
none-counted p (x ∷ xs) none = none_case p x xs (p x) refl (sym (sum_by-cons (λ y. cond (p y) 1 0) x xs) ∙ none) (none-counted p xs)
