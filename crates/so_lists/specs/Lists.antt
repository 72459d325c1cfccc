-- Words on lists, options and functions of numbers.
use Rattle.std.specs.Prelude.{◌≡◌, ℕ, zero, suc, ◌+◌, ◌==◌, nat_lt, List, [], ◌∷◌, ◌++◌, Bool, true, false, Option, Some, None, if◌then◌else◌}

abbrev pub is_empty : {X : Type 0} → List X → Bool
is_empty [] = true
is_empty (x ∷ xs) = false

-- the first of a list
abbrev pub head : {X : Type 0} → List X → Option X
head [] = None
head (x ∷ xs) = Some x

-- the first of two, if there is one
abbrev pub or_else : {X : Type 0} → Option X → Option X → Option X
or_else None b = b
or_else (Some x) b = Some x

-- what f gives for each number below n, in order
unfoldable pub each_below : {X : Type 0} → (ℕ → X) → ℕ → List X
each_below f zero = []
each_below f (suc n) = each_below f n ++ f n ∷ []

-- the first that f gives for a number below n
abbrev pub first_below : {X : Type 0} → (ℕ → Option X) → ℕ → Option X
first_below f zero = None
first_below f (suc n) = or_else (first_below f n) (f n)

-- numbers given in order of first use, where n are given already: each use is of a given one or gives the next. How many are given in
-- the end, none where a use skips one
abbrev pub given_after : ℕ → List ℕ → Option ℕ
given_after n [] = Some n
given_after n (k ∷ uses) = if nat_lt k n then given_after n uses else (if k == n then given_after (n + 1) uses else None)

-- the numbers 0 to n - 1 were given in order of their first use
abbrev pub AreNumbered : List ℕ → ℕ → Type 0
AreNumbered uses n = given_after 0 uses ≡ Some n
