-- Names by number: the position in the list of names.
use Rattle.std.specs.Prelude.{ℕ, List, Bool, is_some, Option, bytes_eq}
use Rattle.std.specs.List.{position}

abbrev pub number_in : List (List ℕ) → List ℕ → Option ℕ
number_in names name = position (bytes_eq name) names

abbrev pub has_name : List (List ℕ) → List ℕ → Bool
has_name names name = is_some (number_in names name)
