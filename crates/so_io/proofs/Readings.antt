-- One reading more of a list.
use Rattle.std.proofs.Common.{◌≡◌, ℕ, ◌+◌, List, ◌∷◌, Bool, true, false, refl, ap, ◌∙◌, arith, Some, None, add-one}
use Rattle.std.specs.Prelude.{nat_lt, if◌then◌else◌}
use Rattle.std.proofs.lemmas.Bool.{ltb-true, lt-ltb}
use Rattle.so_io.specs.Count.{last_count, counted}
use Rattle.so_io.specs.Clock.{AddsReading}
use Rattle.so_io.specs.ListClock.{ListClockState, reading_at, given_readings, told_readings}

-- two lists that are told by a test each, the second only where the first is
adds_told : (before after : Bool) (old new : List ℕ) (r : ℕ) → (after ≡ true → before ≡ true) → (after ≡ true → new ≡ r ∷ old)
    → AddsReading (if before then Some old else None) (if after then Some new else None) r
adds_told false false old new r told added = tt
adds_told true false old new r told added = tt
adds_told false true old new r told added = let wrong : false ≡ true = told refl in absurd cc
adds_told true true old new r told added = added refl

given_more : (readings : List ℕ) (n m : ℕ) → m ≡ n + 1 → given_readings readings m ≡ reading_at readings n ∷ given_readings readings n
unfolding given_readings
given_more readings n m e = ap (given_readings readings) (e ∙ add-one n)

-- a clock that gives its next reading
pub adds_reading : (old new : ListClockState) (r : ℕ) → r ≡ reading_at old.readings old.given → new.readings ≡ old.readings → new.given ≡ counted old.given
    → AddsReading (told_readings old) (told_readings new) r
adds_reading old new r is same given =
    adds_told (nat_lt old.given last_count) (nat_lt new.given last_count) (given_readings old.readings old.given) (given_readings new.readings new.given) r
    (λ t. lt-ltb old.given last_count (omega (arith, ltb-true new.given last_count t)))
    (λ t. rw (same, is) (given_more old.readings old.given new.given (omega (arith, ltb-true new.given last_count t))))
