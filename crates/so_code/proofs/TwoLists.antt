-- The elements of two lists, one after the other.
use Rattle.std.proofs.Common.{◌≡◌, ℕ, zero, suc, ◌+◌, ◌<◌, ◌≤◌, List, [], ◌∷◌, ◌++◌, length, Some, arith, refl}
use Rattle.std.specs.Prelude.{slice_get}

-- an element of the first
pub get_left : {X : Type 0} (xs ys : List X) (k : ℕ) → k < length xs → slice_get (xs ++ ys) k ≡ slice_get xs k
get_left [] ys k l = absurd (omega arith)
get_left (x ∷ xs) ys zero l = refl
get_left (x ∷ xs) ys (suc k) l = get_left xs ys k (omega arith)

-- an element of the second
pub record IsFurther {X : Type 0} (xs ys : List X) (k : ℕ) (i : X) : Type 0 where
  pub rest : ℕ
  pub sum : k ≡ length xs + rest
  pub here : slice_get ys rest ≡ Some i

pub get_right : {X : Type 0} (xs ys : List X) (k : ℕ) (i : X) → length xs ≤ k → slice_get (xs ++ ys) k ≡ Some i → IsFurther xs ys k i
get_right [] ys k i l e = record { rest = k; sum = omega arith; here = e }
get_right (x ∷ xs) ys zero i l e = absurd (omega arith)
get_right (x ∷ xs) ys (suc k) i l e =
    let more = get_right xs ys k i (omega arith) e in
    record { rest = more.rest; sum = omega (arith, more.sum); here = more.here }
