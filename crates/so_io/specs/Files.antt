-- What a reading of a file answers.
use Rattle.std.specs.Prelude.{◌≡◌, ℕ, ◌<◌, ◌≤◌, List, length, Result, Ok, Err, Option, None, Some}
use Rattle.so_io.specs.declared.files.ReadFail.{ReadFail}
use Rattle.so_io.specs.declared.files.ReadFail.TheVariants.{Failed, TooLong, NoMemory}
use Rattle.so_io.specs.Count.{Rose, counted}

-- Where the content is told: its bytes, or TooLong exactly where it has more than `max`.
abbrev pub ReadsContent : {V : Type 0} → (V → List ℕ) → Option (List ℕ) → ℕ → Result V ReadFail → Type 0
ReadsContent items None max result = Unit {0}
ReadsContent items (Some bytes) max (Ok v) = (items v ≡ bytes) × (length bytes ≤ max)
ReadsContent items (Some bytes) max (Err TooLong) = max < length bytes
ReadsContent items (Some bytes) max (Err Failed) = length bytes ≤ max
ReadsContent items (Some bytes) max (Err NoMemory) = length bytes ≤ max

-- Of a reader whose bytes are known: all of them, or TooLong only where it has more than `max`.
abbrev pub ReadsUpTo : {V : Type 0} → (V → List ℕ) → Option (List ℕ) → ℕ → Result V ReadFail → Type 0
ReadsUpTo items None max result = Unit {0}
ReadsUpTo items (Some bytes) max (Ok v) = (items v ≡ bytes) × (length bytes ≤ max)
ReadsUpTo items (Some bytes) max (Err TooLong) = max < length bytes
ReadsUpTo items (Some bytes) max (Err Failed) = Unit {0}
ReadsUpTo items (Some bytes) max (Err NoMemory) = Unit {0}

-- the count doesn't fall, and Failed comes only where it rose
pub record ReadHasCause {V : Type 0} (before now : ℕ) (result : Result V ReadFail) : Type 0 where
  pub later : before ≤ now
  pub failed : result ≡ Err Failed → Rose before now

-- the count after an answer: one more after Failed
abbrev pub after_answer : {V : Type 0} → ℕ → Result V ReadFail → ℕ
after_answer faults (Err Failed) = counted faults
after_answer faults _ = faults
