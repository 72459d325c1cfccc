-- Lists of numbers in a line.
use Rattle.std.specs.Prelude.{ℕ, ℤ, List, [], ◌∷◌, ◌++◌, take, codes, decimal}
use Rattle.std.specs.List.{flat_map, join_by}
use Rattle.std.specs.Fmt.{signed_decimal}
use Rattle.so_ids.specs.declared.Payload.{Payload}
use Rattle.so_ids.specs.declared.StateId.{StateId}

-- each number after a space
unfoldable pub spaced : List ℤ → List ℕ
spaced zs = flat_map (λ z. codes " " ++ signed_decimal z) zs

-- the fields that a payload uses, each after a space
abbrev pub payload_words : Payload → List ℕ
payload_words p = spaced (take p.used p.fields)

-- the numbers of states joined by commas, `-` where there are none
unfoldable pub joined : List StateId → List ℕ
joined [] = codes "-"
joined (s ∷ states) = join_by (λ state. decimal state.0) (codes ",") (s ∷ states)
