-- Filters, searches, and what holds of each element.
use Rattle.std.proofs.Common.{◌≡◌, ℕ, ◌+◌, ◌≤◌, List, [], ◌∷◌, ◌++◌, length, Bool, true, false, not, ◌&&◌, ◌||◌, cond, Option, Some, None, arith, refl, sym, ◌∙◌, ap}
use Rattle.std.specs.List.{filter, find, filter_map, cons_option, AllByRecursion}
use Rattle.std.proofs.lemmas.List.Elements.{filter_agree}
use Rattle.std.proofs.lemmas.List.Sums.{length-filter, count_by-le-length}
use Rattle.std.proofs.lemmas.Bool.{false≢true}

pub each-append : {X : Type 0} (P : X → Type 0) (xs ys : List X) → AllByRecursion P xs → AllByRecursion P ys → AllByRecursion P (xs ++ ys)
each-append P [] ys a b = b
each-append P (x ∷ xs) ys a b = (a.0, each-append P xs ys a.1 b)

pub each-weaker : {X : Type 0} (P Q : X → Type 0) → ((x : X) → P x → Q x) → (xs : List X) → AllByRecursion P xs → AllByRecursion Q xs
each-weaker P Q f [] a = tt
each-weaker P Q f (x ∷ xs) a = (f x a.0, each-weaker P Q f xs a.1)

cond_each : {X : Type 0} (P : X → Type 0) (b : Bool) (x : X) (xs : List X) → P x → AllByRecursion P xs → AllByRecursion P (cond b (x ∷ xs) xs)
cond_each P true x xs a b = (a, b)
cond_each P false x xs a b = b

pub each-filter : {X : Type 0} (P : X → Type 0) (p : X → Bool) (xs : List X) → AllByRecursion P xs → AllByRecursion P (filter p xs)
each-filter P p [] a = tt
each-filter P p (x ∷ xs) a = cond_each P (p x) x (filter p xs) a.0 (each-filter P p xs a.1)

-- what passes a filter passes its test
cond_passes : {X : Type 0} (p : X → Bool) (b : Bool) (x : X) (xs : List X) → p x ≡ b → AllByRecursion (λ y. p y ≡ true) xs → AllByRecursion (λ y. p y ≡ true) (cond b (x ∷ xs) xs)
cond_passes p true x xs e a = (e, a)
cond_passes p false x xs e a = a

pub each_passes : {X : Type 0} (p : X → Bool) (xs : List X) → AllByRecursion (λ x. p x ≡ true) (filter p xs)
each_passes p [] = tt
each_passes p (x ∷ xs) = cond_passes p (p x) x (filter p xs) refl (each_passes p xs)

-- what holds of each holds of the one that is found, which passes the test
cond_found : {X : Type 0} (P : X → Type 0) (p : X → Bool) (b : Bool) (x y : X) (r : Option X) → p x ≡ b → P x → (r ≡ Some y → P y × (p y ≡ true)) → cond b (Some x) r ≡ Some y → P y × (p y ≡ true)
cond_found P p true x y r e px f h = let same : x ≡ y = cc in rw (← same) (px, e)
cond_found P p false x y r e px f h = f h

pub found : {X : Type 0} (P : X → Type 0) (p : X → Bool) (xs : List X) (y : X) → AllByRecursion P xs → find p xs ≡ Some y → P y × (p y ≡ true)
found P p [] y a h = cc
found P p (x ∷ xs) y a h = cond_found P p (p x) x y (find p xs) refl a.0 (found P p xs y a.1) h

-- a filter that all pass keeps all
pub filter_keeps : {X : Type 0} (p : X → Bool) (xs : List X) → AllByRecursion (λ x. p x ≡ true) xs → filter p xs ≡ xs
filter_keeps p [] a = refl
filter_keeps p (x ∷ xs) a = rw (a.0, filter_keeps p xs a.1) refl

-- two filters in a row are one
cond_fuse : {X : Type 0} (p : X → Bool) (b : Bool) (x : X) (xs ys : List X) → filter p xs ≡ ys → filter p (cond b (x ∷ xs) xs) ≡ cond (b && p x) (x ∷ ys) ys
cond_fuse p true x xs ys e = rw e refl
cond_fuse p false x xs ys e = e

pub filter-filter : {X : Type 0} (p q : X → Bool) (xs : List X) → filter p (filter q xs) ≡ filter (λ x. q x && p x) xs
filter-filter p q [] = refl
filter-filter p q (x ∷ xs) = cond_fuse p (q x) x (filter q xs) (filter (λ x. q x && p x) xs) (filter-filter p q xs)

-- the order of two tests does not matter
pub either_way : (a b : Bool) → not (a || b) ≡ (not b && not a)
either_way true true = refl
either_way true false = refl
either_way false true = refl
either_way false false = refl

pub ap2_append : {X : Type 0} {a b c d : List X} → a ≡ b → c ≡ d → a ++ c ≡ b ++ d
ap2_append {X} {a} {b} {c} {d} p q = cc

-- a search in what a filter keeps finds what it found, where that passes
cond_find : {X : Type 0} (p q : X → Bool) (b c : Bool) (x y : X) (xs : List X) → p x ≡ b → q x ≡ c → q y ≡ true → (find p xs ≡ Some y → find p (filter q xs) ≡ Some y) →
    cond b (Some x) (find p xs) ≡ Some y → find p (cond c (x ∷ filter q xs) (filter q xs)) ≡ Some y
cond_find p q true true x y xs e f g ih h = rw e h
cond_find p q true false x y xs e f g ih h = let same : x ≡ y = cc in absurd (false≢true (sym f ∙ (ap q same ∙ g)))
cond_find p q false true x y xs e f g ih h = rw e (ih h)
cond_find p q false false x y xs e f g ih h = ih h

pub find-filter : {X : Type 0} (p q : X → Bool) (xs : List X) (y : X) → q y ≡ true → find p xs ≡ Some y → find p (filter q xs) ≡ Some y
find-filter p q [] y g h = cc
find-filter p q (x ∷ xs) y g h = cond_find p q (p x) (q x) x y xs refl refl g (find-filter p q xs y g) h

lone_found : {X : Type 0} (p : X → Bool) (b : Bool) (y x : X) → cond b (Some y) None ≡ Some x → y ∷ [] ≡ x ∷ []
lone_found p true y x h = cc
lone_found p false y x h = cc

and_swap : (a b : Bool) → (a && b) ≡ (b && a)
and_swap true true = refl
and_swap true false = refl
and_swap false true = refl
and_swap false false = refl

-- the only element is the one that is found
pub lone : {X : Type 0} (p : X → Bool) (xs : List X) (x : X) → length xs ≤ 1 → find p xs ≡ Some x → xs ≡ x ∷ []
lone p [] x l h = cc
lone p (y ∷ z ∷ xs) x l h = absurd (omega arith)
lone p (y ∷ []) x l h = lone_found p (p y) y x h

-- filters can change places
pub filter-swap : {X : Type 0} (p q : X → Bool) (xs : List X) → filter p (filter q xs) ≡ filter q (filter p xs)
filter-swap p q xs = filter-filter p q xs ∙ (filter_agree _ _ (λ x. and_swap (q x) (p x)) xs ∙ sym (filter-filter q p xs))

pub filter-short : {X : Type 0} (p : X → Bool) (xs : List X) → length (filter p xs) ≤ length xs
filter-short p xs = omega (arith, length-filter p xs, count_by-le-length p xs)

pub both_each : {X : Type 0} (P Q : X → Type 0) (xs : List X) → AllByRecursion P xs → AllByRecursion Q xs → AllByRecursion (λ x. P x × Q x) xs
both_each P Q [] a b = tt
both_each P Q (x ∷ xs) a b = ((a.0, b.0), both_each P Q xs a.1 b.1)

-- a search goes on past the end only where it found nothing
find_cond : {X : Type 0} (p : X → Bool) (b : Bool) (y x : X) (r q : Option X) → cond b (Some y) r ≡ Some x → (r ≡ Some x → q ≡ Some x) → cond b (Some y) q ≡ Some x
find_cond p true y x r q e f = e
find_cond p false y x r q e f = f e

pub find-append : {X : Type 0} (p : X → Bool) (xs ys : List X) (x : X) → find p xs ≡ Some x → find p (xs ++ ys) ≡ Some x
find-append p [] ys x e = cc
find-append p (y ∷ xs) ys x e = find_cond p (p y) y x (find p xs) (find p (xs ++ ys)) e (find-append p xs ys x)

pub find_last : {X : Type 0} (p : X → Bool) (xs : List X) (x : X) → AllByRecursion (λ y. p y ≡ false) xs → p x ≡ true → find p (xs ++ x ∷ []) ≡ Some x
find_last p [] x a e = rw e refl
find_last p (y ∷ xs) x a e = rw a.0 (find_last p xs x a.1 e)

-- where none passes in the second list, what is found stands in the first
pub find_front : {X : Type 0} (p : X → Bool) (xs ys : List X) → AllByRecursion (λ y. p y ≡ false) ys → find p (xs ++ ys) ≡ find p xs
find_front p [] [] a = refl
find_front p [] (y ∷ ys) a = rw a.0 (find_front p [] ys a.1)
find_front p (x ∷ xs) ys a = ap (λ r. cond (p x) (Some x) r) (find_front p xs ys a)

-- a filter that none passes keeps none
pub filter_none : {X : Type 0} (p : X → Bool) (xs : List X) → AllByRecursion (λ x. p x ≡ false) xs → filter p xs ≡ []
filter_none p [] a = refl
filter_none p (x ∷ xs) a = rw (a.0, filter_none p xs a.1) refl

cons_short : {Y : Type 0} (o : Option Y) (ys : List Y) (n : ℕ) → length ys ≤ n → length (cons_option o ys) ≤ n + 1
cons_short None ys n l = omega (arith, l)
cons_short (Some y) ys n l = omega (arith, l)

pub filter_map-short : {X Y : Type 0} (f : X → Option Y) (xs : List X) → length (filter_map f xs) ≤ length xs
filter_map-short f [] = omega arith
filter_map-short f (x ∷ xs) = omega (arith, cons_short (f x) (filter_map f xs) (length xs) (filter_map-short f xs))

-- what holds of each that passes
from_case : {X : Type 0} (P : X → Type 0) (p : X → Bool) (x : X) (xs : List X) (b : Bool) → p x ≡ b → AllByRecursion P (cond b (x ∷ filter p xs) (filter p xs)) → (AllByRecursion P (filter p xs) → AllByRecursion (λ y. p y ≡ true → P y) xs) → AllByRecursion (λ y. p y ≡ true → P y) (x ∷ xs)
from_case P p x xs true is all rest = ((λ _. all.0), rest all.1)
from_case P p x xs false is all rest = ((λ on. absurd (false≢true (sym is ∙ on))), rest all)

pub each-from_filter : {X : Type 0} (P : X → Type 0) (p : X → Bool) (xs : List X) → AllByRecursion P (filter p xs) → AllByRecursion (λ x. p x ≡ true → P x) xs
each-from_filter P p [] all = tt
each-from_filter P p (x ∷ xs) all = from_case P p x xs (p x) refl all (each-from_filter P p xs)

pub each-to_filter : {X : Type 0} (P : X → Type 0) (p : X → Bool) (xs : List X) → AllByRecursion (λ x. p x ≡ true → P x) xs → AllByRecursion P (filter p xs)
each-to_filter P p xs all =
    each-weaker (λ x. (p x ≡ true → P x) × (p x ≡ true)) P (λ x both. both.0 both.1) (filter p xs) (both_each (λ x. p x ≡ true → P x) (λ x. p x ≡ true) (filter p xs) (each-filter (λ x. p x ≡ true → P x) p xs all) (each_passes p xs))

-- where none is left, none passes
left_case : {X : Type 0} (p : X → Bool) (x : X) (xs : List X) (b : Bool) → p x ≡ b → cond b (x ∷ filter p xs) (filter p xs) ≡ [] → (filter p xs ≡ [] → AllByRecursion (λ y. p y ≡ false) xs) → AllByRecursion (λ y. p y ≡ false) (x ∷ xs)
left_case p x xs true is none rest = absurd cc
left_case p x xs false is none rest = (is, rest none)

pub none_left : {X : Type 0} (p : X → Bool) (xs : List X) → filter p xs ≡ [] → AllByRecursion (λ x. p x ≡ false) xs
none_left p [] none = tt
none_left p (x ∷ xs) none = left_case p x xs (p x) refl none (none_left p xs)
