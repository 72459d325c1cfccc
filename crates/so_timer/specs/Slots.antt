-- A table with a slot for each number, and the list of armed timers that it stands for.
use Rattle.std.specs.Prelude.{ℕ, ◌+◌, nat_eq, nat_lt, if◌then◌else◌, List, [], ◌∷◌, slice_index_or, Option, Some, None}
use Rattle.so_timer.specs.declared.timer.Armed.{Armed}
use Rattle.so_timer.specs.declared.timer.Timer.{Timer}
use Rattle.so_timer.specs.Timers.{sooner, lesser}

abbrev pub slot_at : List (Option Timer) → ℕ → Option Timer
slot_at slots n = slice_index_or slots n None

abbrev pub armed_timer : ℕ → Timer → Armed
armed_timer n t = record { timer = record { 0 = n }; deadline = t.deadline; period = t.period; task = t.task }

abbrev pub slot_armed : ℕ → Option Timer → List Armed → List Armed
slot_armed n None rest = rest
slot_armed n (Some t) rest = armed_timer n t ∷ rest

-- the timers of a table whose first slot has number n
unfoldable pub armed_from : ℕ → List (Option Timer) → List Armed
armed_from n [] = []
armed_from n (o ∷ rest) = slot_armed n o (armed_from (n + 1) rest)

-- what a fire leaves of a timer
abbrev pub timer_again : Timer → Option Timer
timer_again t = if nat_eq t.period 0 then None else Some (record t { deadline = t.deadline + t.period })

-- what one more slot adds to the count, the next timer and the least deadline
abbrev pub more_armed : Option Timer → ℕ → ℕ
more_armed None count = count
more_armed (Some t) count = count + 1

abbrev pub sooner_slot : ℕ → Option Timer → Option Armed → Option Armed
sooner_slot n None best = best
sooner_slot n (Some t) best = sooner (armed_timer n t) best

abbrev pub earlier_slot : ℕ → Option Timer → Option ℕ → Option ℕ
earlier_slot after None best = best
earlier_slot after (Some t) best = if nat_lt after t.deadline then lesser t.deadline best else best
