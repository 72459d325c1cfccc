-- What a piece that is put leaves in a sink.
use Rattle.std.specs.Prelude.{ℕ, ◌<◌, List, length, take, Result, MatchResult, Option}
use Rattle.std.specs.Io.KnownBytes.{Appends}

-- the first bytes of a piece were appended, not all of them
abbrev pub AppendsPart : Option (List ℕ) → Option (List ℕ) → List ℕ → Type 0
AppendsPart old new piece = (n : ℕ) × (n < length piece) × Appends old new (take n piece)

-- the whole piece at Ok, and a part that isn't the whole at Err
abbrev pub PutAppends : {T E : Type 0} → Option (List ℕ) → Option (List ℕ) → Result T E → List ℕ → Type 0
PutAppends old new result piece = MatchResult result (λ _. Appends old new piece) (λ _. AppendsPart old new piece)
