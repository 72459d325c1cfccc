-- A table of slots, gone through from its end.
use Rattle.std.proofs.Common.{◌≡◌, ℕ, suc, ◌+◌, ◌<◌, ◌≤◌, List, [], ◌∷◌, length, drop, drop-cons, add-one, Option, Some, None, arith, refl}
use Rattle.std.proofs.Math.Seq.{drop-length}
use Rattle.so_timer.specs.declared.timer.Armed.{Armed}
use Rattle.so_timer.specs.declared.timer.Timer.{Timer}
use Rattle.so_timer.specs.Timers.{next_of, earliest_of}
use Rattle.so_timer.specs.Slots.{slot_at, slot_armed, armed_from, more_armed, sooner_slot, earlier_slot}

-- the timers of the slots from a number on
abbrev pub rest_of : List (Option Timer) → ℕ → List Armed
rest_of slots at = armed_from at (drop at slots)

pub rest-end : (slots : List (Option Timer)) (at : ℕ) → at ≡ length slots → rest_of slots at ≡ []
unfolding armed_from
rest-end slots at e = rw (e, drop-length slots) refl

pub rest-before : (slots : List (Option Timer)) (at i : ℕ) → at ≡ i + 1 → at ≤ length slots → rest_of slots i ≡ slot_armed i (slot_at slots i) (rest_of slots at)
unfolding armed_from
rest-before slots at i e l =
    let within : i < length slots = omega arith in
    rw (e, add-one, drop-cons slots i None within) (rw add-one refl)

length-slot : (n : ℕ) (o : Option Timer) (xs : List Armed) → length (slot_armed n o xs) ≡ more_armed o (length xs)
length-slot n None xs = refl
length-slot n (Some t) xs = omega arith

next_of-slot : (n : ℕ) (o : Option Timer) (xs : List Armed) → next_of (slot_armed n o xs) ≡ sooner_slot n o (next_of xs)
unfolding next_of
next_of-slot n None xs = refl
next_of-slot n (Some t) xs = refl

earliest_of-slot : (after n : ℕ) (o : Option Timer) (xs : List Armed) → earliest_of after (slot_armed n o xs) ≡ earlier_slot after o (earliest_of after xs)
unfolding earliest_of
earliest_of-slot after n None xs = refl
earliest_of-slot after n (Some t) xs = refl

pub count-step : (slots : List (Option Timer)) (at i count : ℕ) → at ≡ i + 1 → at ≤ length slots → count ≡ length (rest_of slots at) → more_armed (slot_at slots i) count ≡ length (rest_of slots i)
count-step slots at i count e l h = rw (rest-before slots at i e l, h, length-slot i (slot_at slots i) (rest_of slots at)) refl

pub next-step : (slots : List (Option Timer)) (at i : ℕ) (best : Option Armed) → at ≡ i + 1 → at ≤ length slots → best ≡ next_of (rest_of slots at) → sooner_slot i (slot_at slots i) best ≡ next_of (rest_of slots i)
next-step slots at i best e l h = rw (rest-before slots at i e l, h, next_of-slot i (slot_at slots i) (rest_of slots at)) refl

pub earliest-step : (slots : List (Option Timer)) (after at i : ℕ) (best : Option ℕ) → at ≡ i + 1 → at ≤ length slots → best ≡ earliest_of after (rest_of slots at) → earlier_slot after (slot_at slots i) best ≡ earliest_of after (rest_of slots i)
earliest-step slots after at i best e l h = rw (rest-before slots at i e l, h, earliest_of-slot after i (slot_at slots i) (rest_of slots at)) refl

pub more_armed-le : (o : Option Timer) (count : ℕ) → more_armed o count ≤ count + 1
more_armed-le None count = omega arith
more_armed-le (Some t) count = omega arith

-- empty slots
pub none_armed : (m : ℕ) (slots : List (Option Timer)) → ((k : ℕ) → k < length slots → slot_at slots k ≡ None) → armed_from m slots ≡ []
unfolding armed_from
none_armed m [] h = refl
none_armed m (o ∷ rest) h =
    let first : o ≡ None = h 0 (omega arith) in
    rw (first, none_armed (m + 1) rest (λ k l. h (suc k) (omega arith))) refl
