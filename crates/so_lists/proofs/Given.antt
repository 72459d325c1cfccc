-- Numbers that are given in order of first use.
use Rattle.std.proofs.Common.{◌≡◌, ℕ, ◌+◌, ◌<◌, ◌≤◌, List, [], ◌∷◌, ◌++◌, length, Bool, true, false, Some, None, refl, arith, ap, cond, eq-eqb}
use Rattle.std.proofs.lemmas.Bool.{lt-ltb, le-ltb}
use Rattle.std.specs.Prelude.{nat_lt, ◌==◌, unwrap_or}
use Rattle.std.proofs.lemmas.Option.{none-some}
use Rattle.so_lists.specs.Lists.{given_after}

-- no more numbers are given than there are uses
few : (n k m : ℕ) (uses : List ℕ) (b c : Bool) → ((p : ℕ) → given_after p uses ≡ Some m → m ≤ p + length uses) →
    cond b (given_after n uses) (cond c (given_after (n + 1) uses) None) ≡ Some m → m ≤ n + length (k ∷ uses)
few n k m uses true c rest is = omega (arith, rest n is)
few n k m uses false true rest is = omega (arith, rest (n + 1) is)
few n k m uses false false rest is = absurd (none-some m is)

pub given-few : (n m : ℕ) (uses : List ℕ) → given_after n uses ≡ Some m → m ≤ n + length uses
given-few n m [] is = let same : n ≡ m = ap (λ o. unwrap_or o 0) is in omega (arith, same)
given-few n m (k ∷ uses) is = few n k m uses (nat_lt k n) (k == n) (λ p. given-few p m uses) is

-- uses that come after others go on from what those gave
go_on : (n m : ℕ) (xs ys : List ℕ) (b c : Bool) → ((p : ℕ) → given_after p xs ≡ Some m → given_after p (xs ++ ys) ≡ given_after m ys) →
    cond b (given_after n xs) (cond c (given_after (n + 1) xs) None) ≡ Some m → cond b (given_after n (xs ++ ys)) (cond c (given_after (n + 1) (xs ++ ys)) None) ≡ given_after m ys
go_on n m xs ys true c rest is = rest n is
go_on n m xs ys false true rest is = rest (n + 1) is
go_on n m xs ys false false rest is = absurd (none-some m is)

pub given-append : (n m : ℕ) (xs ys : List ℕ) → given_after n xs ≡ Some m → given_after n (xs ++ ys) ≡ given_after m ys
given-append n m [] ys is = ap (λ k. given_after k ys) (ap (λ o. unwrap_or o 0) is)
given-append n m (k ∷ xs) ys is = go_on n m xs ys (nat_lt k n) (k == n) (λ p. given-append p m xs ys) is

-- one use, of a given number and of the next
pub given-old : (n k : ℕ) → k < n → given_after n (k ∷ []) ≡ Some n
given-old n k l = rw (lt-ltb k n l) refl

pub given-next : (n : ℕ) → given_after n (n ∷ []) ≡ Some (n + 1)
given-next n = rw (le-ltb n n (omega arith), eq-eqb n n refl) refl
