-- Known bytes that are kept, and then appended to.
use Rattle.std.proofs.Common.{◌≡◌, ℕ, ◌<◌, ◌≤◌, List, [], ◌++◌, length, take, ◌∙◌, refl, arith, Option, Some, None, IfSome, Ok, length-take, ap}
use Rattle.std.specs.Option.{option_map}
use Rattle.std.proofs.lemmas.List.{append-nil, take_all}
use Rattle.std.specs.Io.KnownBytes.{Appends, Keeps}
use Rattle.so_io.specs.Files.{ReadsUpTo}

pub kept : (a : Option (List ℕ)) → Keeps a a
kept None = tt
kept (Some x) = refl

pub kept_on : (a b c : Option (List ℕ)) → Keeps a b → Keeps b c → Keeps a c
kept_on None b c ab bc = tt
kept_on (Some x) None c ab bc = absurd ab
kept_on (Some x) (Some y) None ab bc = absurd bc
kept_on (Some x) (Some y) (Some z) ab bc = bc ∙ ab

pub kept_and_appended : (a b c : Option (List ℕ)) (xs : List ℕ) → Keeps a b → Appends b c xs → Appends a c xs
kept_and_appended None b c xs ab bc = tt
kept_and_appended (Some x) None c xs ab bc = absurd ab
kept_and_appended (Some x) (Some y) None xs ab bc = absurd bc
kept_and_appended (Some x) (Some y) (Some z) xs ab bc = rw ab at bc

pub kept_by_none : (a b c : Option (List ℕ)) → Keeps a b → Appends b c [] → Keeps a c
kept_by_none None b c ab bc = tt
kept_by_none (Some x) None c ab bc = absurd ab
kept_by_none (Some x) (Some y) None ab bc = absurd bc
kept_by_none (Some x) (Some y) (Some z) ab bc = bc ∙ append-nil y ∙ ab

-- what a row of calls keeps before one that appends
pub ruleset keeping = (kept, kept_on, kept_and_appended, kept_by_none)

-- fewer known bytes than the limit were read, so that they are all
all_below_limit : (bytes : List ℕ) (limit max : ℕ) (new : List ℕ) → new ≡ take limit bytes → length new < limit → length new ≤ max → (new ≡ bytes) × (length bytes ≤ max)
all_below_limit bytes limit max new taken short fits =
    let all : take limit bytes ≡ bytes = take_all limit bytes (omega (arith, length-take limit bytes, ap length taken)) in
    (taken ∙ all, omega (arith, ap length (taken ∙ all)))

pub reads_all : {V : Type 0} (items : V → List ℕ) (v : V) (known : Option (List ℕ)) (limit max : ℕ) (old : List ℕ) → old ≡ []
    → IfSome (option_map (take limit) known) (λ xs. items v ≡ old ++ xs) → length (items v) < limit → length (items v) ≤ max → ReadsUpTo items known max (Ok v)
reads_all items v None limit max old none read short fits = tt
reads_all items v (Some bytes) limit max old none read short fits = all_below_limit bytes limit max (items v) (rw none at read) short fits
