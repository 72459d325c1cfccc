-- A loop that stops at the first fault.
use Rattle.std.proofs.Common.{◌≡◌, ℕ, suc, ◌+◌, ◌<◌, true, false, Option, Some, None, is_some, sym, ap, ◌∙◌, arith}
use Rattle.so_lists.specs.Lists.{or_else, first_below}
use Rattle.so_lists.proofs.First.{first_below-from}

pub stops_here : {X : Type 0} (f : ℕ → Option X) (n k : ℕ) (o : Option X) → k < n → first_below f k ≡ None → o ≡ f k → true ≡ is_some o → o ≡ first_below f n
stops_here f n k None l none e is = cc
stops_here f n k (Some x) l none e is = sym (first_below-from f n k x l none (sym e))

pub goes_on : {X : Type 0} (f : ℕ → Option X) (k : ℕ) (o : Option X) → first_below f k ≡ None → o ≡ f k → false ≡ is_some o → first_below f (k + 1) ≡ None
goes_on f k None none e is =
    let next : k + 1 ≡ suc k = omega arith in
    ap (first_below f) next ∙ (ap (λ a. or_else a (f k)) none ∙ sym e)
goes_on f k (Some x) none e is = cc
