-- General facts on lists and options.
use Rattle.std.proofs.Common.{◌≡◌, ℕ, zero, suc, ◌+◌, ◌-◌, ◌&&◌, ◌<◌, ◌≤◌, ◌⊎◌, inl, inr, ⊎_elim, Bool, true, false, ◌||◌, List, [], ◌∷◌, ◌++◌, length, Option, Some, None, arith, refl, sym, ap, subst, ◌∙◌}
use Rattle.std.specs.Prelude.{cond, fold, not, nat_lt, slice_get, find, filter, reverse, position, count_by, zip}
use Rattle.std.specs.List.{AllByRecursion, list_any, position_or_len, range_with_len}
use Rattle.std.specs.Option.{option_or}
use Rattle.std.proofs.lemmas.Bool.{lt-ltb, ltb-true}
use Rattle.std.proofs.lemmas.Option.{cond_some, slice_get_cases}
use Rattle.std.proofs.lemmas.List.Quantifiers.{position-Some}
use Rattle.std.proofs.lemmas.List.{reverse-append}
use Rattle.std.proofs.lemmas.List.Folds.{find-append, list_any-append}

-- ---- options

pub option_or-none : {A : Type 0} (a b : Option A) → option_or a b ≡ None → (a ≡ None) × (b ≡ None)
option_or-none None b h = (refl, h)
option_or-none (Some x) b h = cc

pub option_or-some : {A : Type 0} (a b : Option A) (x : A) → option_or a b ≡ Some x → (a ≡ Some x) ⊎ ((a ≡ None) × (b ≡ Some x))
option_or-some None b x e = inr (refl, e)
option_or-some (Some y) b x e = inl e

pub cond-none : {X : Type 0} (b : Bool) (x : X) (o : Option X) → cond b (Some x) o ≡ None → (b ≡ false) × (o ≡ None)
cond-none true x o h = cc
cond-none false x o h = (refl, h)

-- ---- tests

pub and_swap : (a b : Bool) → (a && b) ≡ (b && a)
and_swap true true = refl
and_swap true false = refl
and_swap false true = refl
and_swap false false = refl

pub or_false : (a b : Bool) → (a || b) ≡ false → (a ≡ false) × (b ≡ false)
or_false true b h = cc
or_false false b h = (refl, h)

pub or_right : (a b : Bool) → b ≡ true → (a || b) ≡ true
or_right true b h = refl
or_right false b h = h

pub or_more : (a b c : Bool) → (b ≡ true → c ≡ true) → (a || b) ≡ true → (a || c) ≡ true
or_more true b c more h = refl
or_more false b c more h = more h

-- what would make a false test true is false
pub back_false : (a b : Bool) → (a ≡ true → b ≡ true) → b ≡ false → a ≡ false
back_false true b more h = let e : true ≡ false = sym (more refl) ∙ h in cc
back_false false b more h = refl

-- ---- the first that passes

pub find-append_none : {X : Type 0} (p : X → Bool) (xs ys : List X) → find p (xs ++ ys) ≡ None → (find p xs ≡ None) × (find p ys ≡ None)
find-append_none p xs ys none = option_or-none (find p xs) (find p ys) (sym (find-append p xs ys) ∙ none)

pub find-append_some : {X : Type 0} (p : X → Bool) (xs ys : List X) (x : X) → find p (xs ++ ys) ≡ Some x → (find p xs ≡ Some x) ⊎ ((find p xs ≡ None) × (find p ys ≡ Some x))
find-append_some p xs ys x e = option_or-some (find p xs) (find p ys) x (sym (find-append p xs ys) ∙ e)

first_passes : {X : Type 0} (b : Bool) (p : X → Bool) (y x : X) (rest : Option X) → p y ≡ b → (rest ≡ Some x → p x ≡ true) → cond b (Some y) rest ≡ Some x → p x ≡ true
first_passes true p y x rest e later found = let same : y ≡ x = cc in rw (← same) e
first_passes false p y x rest e later found = later found

pub find-passes : {X : Type 0} (p : X → Bool) (xs : List X) (x : X) → find p xs ≡ Some x → p x ≡ true
find-passes p [] x found = cc
find-passes p (y ∷ ys) x found = first_passes (p y) p y x (find p ys) refl (find-passes p ys x) found

first_keeps : {X : Type 0} (P : X → Type 0) (b : Bool) (y x : X) (rest : Option X) → P y → (rest ≡ Some x → P x) → cond b (Some y) rest ≡ Some x → P x
first_keeps P true y x rest here later found = let same : y ≡ x = cc in subst P same here
first_keeps P false y x rest here later found = later found

-- what holds of each holds of the one that is found
pub find-keeps : {X : Type 0} (P : X → Type 0) (p : X → Bool) (xs : List X) (x : X) → AllByRecursion P xs → find p xs ≡ Some x → P x
find-keeps P p [] x all found = cc
find-keeps P p (y ∷ ys) x all found = first_keeps P (p y) y x (find p ys) all.0 (find-keeps P p ys x all.1) found

prefix_within : (b : Bool) (n m : ℕ) → (b ≡ false → n < m) → cond (not b) (1 + n) 0 < suc m
prefix_within true n m later = omega arith
prefix_within false n m later = let h : n < m = later refl in omega arith

rest_passes : (a b : Bool) → (a || b) ≡ true → a ≡ false → b ≡ true
rest_passes true b h no_first = cc
rest_passes false b h no_first = h

place_within : {X : Type 0} (p : X → Bool) (xs : List X) → list_any p xs ≡ true → position_or_len p xs < length xs
place_within p [] some = cc
place_within p (x ∷ xs) some =
    prefix_within (p x) (position_or_len p xs) (length xs) (λ no_first. place_within p xs (rest_passes (p x) (list_any p xs) some no_first))

-- where some element passes, there is a first that does
pub position-some : {X : Type 0} (p : X → Bool) (xs : List X) → list_any p xs ≡ true → position p xs ≡ Some (position_or_len p xs)
position-some p xs some = rw (lt-ltb (position_or_len p xs) (length xs) (place_within p xs some)) refl

-- and the place of the first has an element that passes
pub position-element : {X : Type 0} (p : X → Bool) (xs : List X) (k : ℕ) → position p xs ≡ Some k → (x : X) × (slice_get xs k ≡ Some x) × (p x ≡ true)
position-element p xs k place =
    let found = cond_some (nat_lt (position_or_len p xs) (length xs)) (position_or_len p xs) k place in
    let within : position_or_len p xs < length xs = ltb-true (position_or_len p xs) (length xs) found.0 in
    let here : position_or_len p xs ≡ k = found.1 in
    ⊎_elim
    (λ w. (w.0, w.2, ap p (sym w.3) ∙ (position-Some p xs k w.0 place).1))
    (λ w. let past : length xs ≤ k = w.0 in absurd (omega arith))
    ((slice_get_cases xs k).1)

count_on-none : {X : Type 0} (p : X → Bool) (n : ℕ) (xs : List X) → list_any p xs ≡ false → fold (λ a x. a + cond (p x) 1 0) n xs ≡ n
count_on-none p n [] none = refl
count_on-none p n (x ∷ xs) none =
    let both = or_false (p x) (list_any p xs) none in
    let same : n + cond (p x) 1 0 ≡ n = ap (λ b. n + cond b 1 0) both.0 ∙ (omega arith) in
    count_on-none p (n + cond (p x) 1 0) xs both.1 ∙ same

-- none passes, so none is counted
pub count_by-none : {X : Type 0} (p : X → Bool) (xs : List X) → list_any p xs ≡ false → count_by p xs ≡ 0
count_by-none p xs none = count_on-none p 0 xs none

-- ---- filters

pub filter_on : {X : Type 0} (p : X → Bool) (x : X) (xs : List X) → p x ≡ true → filter p (x ∷ xs) ≡ x ∷ filter p xs
filter_on p x xs e = rw e refl

pub filter_off : {X : Type 0} (p : X → Bool) (x : X) (xs : List X) → p x ≡ false → filter p (x ∷ xs) ≡ filter p xs
filter_off p x xs e = rw e refl

-- every element passes
pub filter-all : {X : Type 0} (p : X → Bool) (xs : List X) → AllByRecursion (λ x. p x ≡ true) xs → filter p xs ≡ xs
filter-all p [] all = refl
filter-all p (x ∷ xs) all = filter_on p x xs all.0 ∙ ap (λ l. x ∷ l) (filter-all p xs all.1)

-- no element passes
pub filter-none : {X : Type 0} (p : X → Bool) (xs : List X) → AllByRecursion (λ x. p x ≡ false) xs → filter p xs ≡ []
filter-none p [] all = refl
filter-none p (x ∷ xs) all = filter_off p x xs all.0 ∙ filter-none p xs all.1

filter_alike : {X : Type 0} (b : Bool) (x : X) (ys zs : List X) → ys ≡ zs → cond b (x ∷ ys) ys ≡ cond b (x ∷ zs) zs
filter_alike true x ys zs e = ap (λ l. x ∷ l) e
filter_alike false x ys zs e = e

-- the tests agree on each element
pub filter-alike : {X : Type 0} (p q : X → Bool) (xs : List X) → AllByRecursion (λ x. p x ≡ q x) xs → filter p xs ≡ filter q xs
filter-alike p q [] all = refl
filter-alike p q (x ∷ xs) all =
    ap (λ b. cond b (x ∷ filter p xs) (filter p xs)) all.0 ∙ filter_alike (q x) x (filter p xs) (filter q xs) (filter-alike p q xs all.1)

pub map_all : {X : Type 0} (P Q : X → Type 0) (xs : List X) → ((x : X) → P x → Q x) → AllByRecursion P xs → AllByRecursion Q xs
map_all P Q [] f all = tt
map_all P Q (x ∷ xs) f all = (f x all.0, map_all P Q xs f all.1)

or_swap : (a b : Bool) → (a || (b || false)) ≡ (b || a)
or_swap true true = refl
or_swap true false = refl
or_swap false true = refl
or_swap false false = refl

pub list_any-reverse : {X : Type 0} (p : X → Bool) (xs : List X) → list_any p (reverse xs) ≡ list_any p xs
list_any-reverse p [] = refl
list_any-reverse p (x ∷ xs) =
    ap (list_any p) (reverse-append (x ∷ []) xs)
    ∙ (list_any-append p (reverse xs) (x ∷ [])
    ∙ (ap (λ b. b || (p x || false)) (list_any-reverse p xs) ∙ or_swap (list_any p xs) (p x)))

pub second_half : {X : Type 0} (P : X → Type 0) (front rest : List X) → AllByRecursion P (front ++ rest) → AllByRecursion P rest
second_half P [] rest all = all
second_half P (x ∷ front) rest all = second_half P front rest all.1

-- ---- pairs and numbers

pub zip-get : {X Y : Type 0} (xs : List X) (ys : List Y) (k : ℕ) (pair : X × Y) → slice_get (zip xs ys) k ≡ Some pair → (slice_get xs k ≡ Some pair.0) × (slice_get ys k ≡ Some pair.1)
zip-get [] ys k pair e = cc
zip-get (x ∷ xs) [] k pair e = cc
zip-get (x ∷ xs) (y ∷ ys) zero pair e = let same : (x, y) ≡ pair = cc in (ap (λ w. Some w.0) same, ap (λ w. Some w.1) same)
zip-get (x ∷ xs) (y ∷ ys) (suc k) pair e = zip-get xs ys k pair e

-- with numbers left, the next one is first
pub range_with_len-left : (n k : ℕ) → k < n → range_with_len k (n - k) ≡ k ∷ range_with_len (k + 1) (n - (k + 1))
range_with_len-left n k h =
    let e : n - k ≡ suc (n - (k + 1)) = omega arith in
    ap (λ m. range_with_len k m) e

pub ruleset finds = (find-append)

pub ruleset numbers = (range_with_len-left)
