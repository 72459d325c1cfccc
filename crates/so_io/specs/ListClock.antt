-- A clock that gives the readings of a list.
use Rattle.std.specs.Prelude.{ℕ, zero, suc, ◌-◌, min, List, [], ◌∷◌, length, slice_index, nat_lt, if◌then◌else◌, Option, None, Some}
use Rattle.so_io.specs.Count.{last_count}

-- the list, and how many readings were given
pub record ListClockState : Type 0 where
  pub readings : List ℕ
  pub given : ℕ

-- the reading of this number, from 0, where the last of the list is repeated
abbrev pub reading_at : List ℕ → ℕ → ℕ
reading_at readings n = slice_index readings (min n (length readings - 1))

-- the first readings, so many, the newest first
unfoldable pub given_readings : List ℕ → ℕ → List ℕ
given_readings readings zero = []
given_readings readings (suc n) = reading_at readings n ∷ given_readings readings n

-- the readings are told while their count is below its last value
abbrev pub told_readings : ListClockState → Option (List ℕ)
told_readings c = if nat_lt c.given last_count then Some (given_readings c.readings c.given) else None
