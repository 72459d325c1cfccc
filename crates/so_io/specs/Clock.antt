-- What a reading adds to the readings that a clock tells.
use Rattle.std.specs.Prelude.{◌≡◌, ℕ, List, ◌∷◌, Option, None, Some}

-- Told readings, the newest first, have this one more. A clock may stop telling, and then tells no more.
abbrev pub AddsReading : Option (List ℕ) → Option (List ℕ) → ℕ → Type 0
AddsReading old None reading = Unit {0}
AddsReading None (Some new) reading = ⊥
AddsReading (Some old) (Some new) reading = new ≡ reading ∷ old
