-- Pieces of a text that are appended one after the other.
use Rattle.std.proofs.Common.{◌≡◌, ℕ, ◌+◌, ◌-◌, List, [], ◌++◌, length, take, drop, sym, ◌∙◌, ap, subst, append_assoc, length-drop, arith, Option, Some, None}
use Rattle.std.proofs.Math.Seq.{take-add}
use Rattle.std.proofs.lemmas.List.{take_all, append-nil}
use Rattle.std.specs.Io.KnownBytes.{Appends}

pub Appends-more : (a b c : Option (List ℕ)) (xs ys : List ℕ) → Appends a b xs → Appends b c ys → Appends a c (xs ++ ys)
Appends-more None b c xs ys ab bc = tt
Appends-more (Some x) None c xs ys ab bc = absurd ab
Appends-more (Some x) (Some y) None xs ys ab bc = absurd bc
Appends-more (Some x) (Some y) (Some z) xs ys ab bc = bc ∙ (ap (λ l. l ++ ys) ab ∙ append_assoc x xs ys)

-- what a slice from a place on has is what is left there
rest_of : (xs : List ℕ) (n : ℕ) → take (length xs - n) (drop n xs) ≡ drop n xs
rest_of xs n = take_all (length xs - n) (drop n xs) (omega (arith, length-drop n xs))

-- the first n bytes of a piece, and then m of the slice of the rest
pub Appends-slice : (a b c : Option (List ℕ)) (xs : List ℕ) (n m : ℕ) → Appends a b (take n xs) → Appends b c (take m (take (length xs - n) (drop n xs)))
    → Appends a c (take (n + m) xs)
Appends-slice a b c xs n m ab bc =
    let joined : take n xs ++ take m (take (length xs - n) (drop n xs)) ≡ take (n + m) xs = rw rest_of (sym (take-add n m xs)) in
    subst (Appends a c) joined (Appends-more a b c _ _ ab bc)

-- nothing is appended by a sink that isn't written to
pub Appends-none : (a : Option (List ℕ)) → Appends a a []
Appends-none None = tt
Appends-none (Some x) = sym (append-nil x)
