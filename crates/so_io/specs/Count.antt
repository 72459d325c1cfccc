-- Counts of 64 bits that go up to their last value and stay there, and faults that are counted so.
use Rattle.std.specs.Prelude.{ℕ, ◌+◌, ◌-◌, ◌^◌, ◌<◌, ◌≤◌, ◌⊎◌, min, Result, OnErr, Bool, List, ◌==◌}
use Rattle.std.specs.List.{list_any}

abbrev pub last_count : ℕ
last_count = 2 ^ 64 - 1

-- one more
abbrev pub counted : ℕ → ℕ
counted n = min (n + 1) last_count

-- the count is greater than before, or stands at its last value
abbrev pub Rose : ℕ → ℕ → Type 0
Rose before now = (before < now) ⊎ (last_count ≤ now)

-- the count doesn't fall, and a failure comes only where it rose
pub record HasCause {T E : Type 0} (before now : ℕ) (result : Result T E) : Type 0 where
  pub later : before ≤ now
  pub failed : OnErr result (Rose before now)

-- the call of this number is one of those that fail
abbrev pub is_to_fail : List ℕ → ℕ → Bool
is_to_fail fails call = list_any (λ n. n == call) fails
