-- What stands last in a list.
use Rattle.std.proofs.Common.{◌≡◌, List, [], ◌∷◌, ◌++◌, Bool, true, ◌||◌, refl, ap}
use Rattle.std.specs.List.{list_any}
use Rattle.std.proofs.lemmas.Bool.{or_left, or_right}

-- a list has none, or one stands last
pub data Last {X : Type 0} (xs : List X) : Type 0 where
  nobody : xs ≡ [] → Last xs
  somebody : (front : List X) (last : X) → xs ≡ front ++ last ∷ [] → Last xs

last_after : {X : Type 0} (x : X) (xs : List X) → Last xs → Last (x ∷ xs)
last_after x xs (nobody is) = somebody [] x (ap (λ ys. x ∷ ys) is)
last_after x xs (somebody front last is) = somebody (x ∷ front) last (ap (λ ys. x ∷ ys) is)

pub last_of : {X : Type 0} (xs : List X) → Last xs
last_of [] = nobody refl
last_of (x ∷ xs) = last_after x xs (last_of xs)

-- a test that it passes finds one
pub last_passes : {X : Type 0} (p : X → Bool) (front : List X) (x : X) → p x ≡ true → list_any p (front ++ x ∷ []) ≡ true
last_passes p [] x is = or_left (p x) _ is
last_passes p (y ∷ front) x is = or_right (p y) (list_any p (front ++ x ∷ [])) (last_passes p front x is)
