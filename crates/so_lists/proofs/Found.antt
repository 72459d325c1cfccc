-- What is found in a part of a list, and by a narrower test.
use Rattle.std.proofs.Common.{◌≡◌, List, [], ◌∷◌, Bool, true, false, ◌&&◌, ◌||◌, cond, Some, None, refl, sym, ◌∙◌, ap}
use Rattle.std.specs.List.{filter, find, list_any}
use Rattle.std.proofs.lemmas.Bool.{false≢true}
use Rattle.std.proofs.lemmas.Option.{same_Some}
use Rattle.so_lists.proofs.Filters.{find-filter}

-- what is found among those that pass a test is the first that passes both
find_case : {X : Type 0} (p q : X → Bool) (x d : X) (xs : List X) (b c : Bool) → q x ≡ b → p x ≡ c → find p (cond b (x ∷ filter q xs) (filter q xs)) ≡ Some d →
    (find p (filter q xs) ≡ Some d → find (λ y. q y && p y) xs ≡ Some d) → cond (b && c) (Some x) (find (λ y. q y && p y) xs) ≡ Some d
find_case p q x d xs true true on is e rest = let same : Some x ≡ Some d = rw is at e in same
find_case p q x d xs true false on is e rest = rest (rw is at e)
find_case p q x d xs false c on is e rest = rest e

pub find_within : {X : Type 0} (p q : X → Bool) (xs : List X) (d : X) → find p (filter q xs) ≡ Some d → find (λ x. q x && p x) xs ≡ Some d
find_within p q [] d e = absurd cc
find_within p q (x ∷ xs) d e = find_case p q x d xs (q x) (p x) refl refl e (find_within p q xs d)

-- what is found by a test is found by a narrower one that it passes
narrower_case : {X : Type 0} (p q : X → Bool) (x d : X) (xs : List X) (b c : Bool) → p x ≡ b → q x ≡ c → (q x ≡ true → p x ≡ true) → q d ≡ true → cond b (Some x) (find p xs) ≡ Some d →
    (find p xs ≡ Some d → find q xs ≡ Some d) → cond c (Some x) (find q xs) ≡ Some d
narrower_case p q x d xs true true on is wider it e rest = e
narrower_case p q x d xs true false on is wider it e rest = let same : x ≡ d = same_Some x d e in absurd (false≢true (sym is ∙ (ap q same ∙ it)))
narrower_case p q x d xs false true on is wider it e rest = absurd (false≢true (sym on ∙ wider is))
narrower_case p q x d xs false false on is wider it e rest = rest e

pub find_narrower : {X : Type 0} (p q : X → Bool) (xs : List X) (d : X) → ((x : X) → q x ≡ true → p x ≡ true) → q d ≡ true → find p xs ≡ Some d → find q xs ≡ Some d
find_narrower p q [] d wider it e = absurd cc
find_narrower p q (x ∷ xs) d wider it e = narrower_case p q x d xs (p x) (q x) refl refl (wider x) it e (find_narrower p q xs d wider it)

-- where some pass, one is found
some_case : {X : Type 0} (p : X → Bool) (x : X) (xs : List X) (b : Bool) → p x ≡ b → (b || list_any p xs) ≡ true → (list_any p xs ≡ true → (y : X) × (find p xs ≡ Some y)) → (y : X) × (cond b (Some x) (find p xs) ≡ Some y)
some_case p x xs true is e rest = (x, refl)
some_case p x xs false is e rest = rest e

pub find_some : {X : Type 0} (p : X → Bool) (xs : List X) → list_any p xs ≡ true → (y : X) × (find p xs ≡ Some y)
find_some p [] e = absurd cc
find_some p (x ∷ xs) e = some_case p x xs (p x) refl e (find_some p xs)

-- what is found by one test is not there where another that it passes finds none
missed_case : {X : Type 0} (p q : X → Bool) (x y : X) (xs : List X) (b c : Bool) → p x ≡ b → q x ≡ c → p y ≡ true → cond b (Some x) (find p xs) ≡ None → cond c (Some x) (find q xs) ≡ Some y →
    (find p xs ≡ None → find q xs ≡ Some y → ⊥) → ⊥
missed_case p q x y xs true c on is it none some rest = cc
missed_case p q x y xs false true on is it none some rest = let same : x ≡ y = same_Some x y some in false≢true (sym on ∙ (ap p same ∙ it))
missed_case p q x y xs false false on is it none some rest = rest none some

pub not_missed : {X : Type 0} (p q : X → Bool) (xs : List X) (y : X) → p y ≡ true → find p xs ≡ None → find q xs ≡ Some y → ⊥
not_missed p q [] y it none some = cc
not_missed p q (x ∷ xs) y it none some = missed_case p q x y xs (p x) (q x) refl refl it none some (not_missed p q xs y it)

-- where one of a part passes, one of a wider part does
or_wider : (a b c : Bool) → (a || b) ≡ true → (b ≡ true → c ≡ true) → (a || c) ≡ true
or_wider true b c e wider = refl
or_wider false b c e wider = wider e

or_second : (a b : Bool) → b ≡ true → (a || b) ≡ true
or_second true b e = refl
or_second false b e = e

wider_case : {X : Type 0} (p q r : X → Bool) (x : X) (xs : List X) (b c : Bool) → q x ≡ b → r x ≡ c → (q x ≡ true → r x ≡ true) → list_any p (cond b (x ∷ filter q xs) (filter q xs)) ≡ true →
    (list_any p (filter q xs) ≡ true → list_any p (filter r xs) ≡ true) → list_any p (cond c (x ∷ filter r xs) (filter r xs)) ≡ true
wider_case p q r x xs true true on is wider e rest = or_wider (p x) _ _ e rest
wider_case p q r x xs true false on is wider e rest = absurd (false≢true (sym is ∙ wider on))
wider_case p q r x xs false true on is wider e rest = or_second (p x) _ (rest e)
wider_case p q r x xs false false on is wider e rest = rest e

pub any_wider : {X : Type 0} (p q r : X → Bool) (xs : List X) → ((x : X) → q x ≡ true → r x ≡ true) → list_any p (filter q xs) ≡ true → list_any p (filter r xs) ≡ true
any_wider p q r [] wider e = e
any_wider p q r (x ∷ xs) wider e = wider_case p q r x xs (q x) (r x) refl refl (wider x) e (any_wider p q r xs wider)

-- what is found passes in its part
found_case : {X : Type 0} (t p : X → Bool) (x y : X) (xs : List X) (b : Bool) → t x ≡ b → p y ≡ true → cond b (Some x) (find t xs) ≡ Some y → (find t xs ≡ Some y → list_any p xs ≡ true) → (p x || list_any p xs) ≡ true
found_case t p x y xs true on is e rest = let same : p x ≡ true = ap p (same_Some x y e) ∙ is in rw same refl
found_case t p x y xs false on is e rest = or_second (p x) (list_any p xs) (rest e)

found_any : {X : Type 0} (t p : X → Bool) (xs : List X) (y : X) → p y ≡ true → find t xs ≡ Some y → list_any p xs ≡ true
found_any t p [] y is e = absurd cc
found_any t p (x ∷ xs) y is e = found_case t p x y xs (t x) refl is e (found_any t p xs y is)

pub any_found : {X : Type 0} (t p q : X → Bool) (xs : List X) (y : X) → q y ≡ true → p y ≡ true → find t xs ≡ Some y → list_any p (filter q xs) ≡ true
any_found t p q xs y there is e = found_any t p (filter q xs) y is (find-filter t q xs y there e)
