-- Timers as the list of those that are armed, in order of number.
use Rattle.std.specs.Prelude.{◌≡◌, ℕ, ◌+◌, ◌^◌, ◌≤◌, Bool, not, ◌&&◌, ◌||◌, nat_eq, nat_lt, nat_le, if◌then◌else◌, min, List, [], ◌∷◌, ◌++◌, Option, Some, None, find, is_some, option_map, filter}
use Rattle.so_ids.specs.declared.TimerId.{TimerId}
use Rattle.so_timer.specs.declared.timer.Armed.{Armed}
use Rattle.so_timer.specs.declared.timer.TimerTask.{TimerTask}

-- next is the number of the next timer, cap how many may be armed at once, total how many in all
pub record TimerTable : Type 0 where
  pub armed : List Armed
  pub next : ℕ
  pub cap : ℕ
  pub total : ℕ

abbrev pub no_timers : ℕ → ℕ → TimerTable
no_timers cap total = record { armed = []; next = 0; cap = cap; total = total }

-- looking up by number
abbrev pub has_number : ℕ → Armed → Bool
has_number n a = nat_eq a.timer.0 n

abbrev pub timer_of : ℕ → List Armed → Option Armed
timer_of n armed = find (has_number n) armed

abbrev pub is_armed : ℕ → List Armed → Bool
is_armed n armed = is_some (timer_of n armed)

abbrev pub task_of : ℕ → List Armed → Option TimerTask
task_of n armed = option_map (λ (a : Armed). a.task) (timer_of n armed)

-- the deadline with the period added is at most 2^63
abbrev pub IsInRange : ℕ → List Armed → Type 0
IsInRange n armed = (a : Armed) → timer_of n armed ≡ Some a → a.deadline + a.period ≤ 2 ^ 63

-- arming gives the next number
abbrev pub after_arm : ℕ → ℕ → TimerTask → TimerTable → TimerTable
after_arm deadline period task t = record t {
  armed = t.armed ++ record { timer = record { 0 = t.next }; deadline = deadline; period = period; task = task } ∷ [];
  next = t.next + 1;
}

-- disarming
abbrev pub without : ℕ → List Armed → List Armed
without n armed = filter (λ a. not (has_number n a)) armed

abbrev pub after_cancel : ℕ → TimerTable → TimerTable
after_cancel n t = record t { armed = without n t.armed }

abbrev pub after_clear : TimerTable → TimerTable
after_clear t = record t { armed = [] }

-- one that fires is armed anew under its number if it has a period, its deadline later by it
abbrev pub again : Armed → List Armed → List Armed
again a rest = if nat_eq a.period 0 then rest else (record a { deadline = a.deadline + a.period } ∷ rest)

abbrev pub fired : ℕ → List Armed → List Armed
fired n [] = []
fired n (a ∷ rest) = if has_number n a then again a (fired n rest) else (a ∷ fired n rest)

abbrev pub after_fire : ℕ → TimerTable → TimerTable
after_fire n t = record t { armed = fired n t.armed }

-- the next timer: the least by deadline, then by number
abbrev pub comes_first : Armed → Armed → Bool
comes_first a b = nat_lt a.deadline b.deadline || (nat_eq a.deadline b.deadline && nat_le a.timer.0 b.timer.0)

abbrev pub sooner : Armed → Option Armed → Option Armed
sooner a None = Some a
sooner a (Some b) = if comes_first a b then Some a else Some b

unfoldable pub next_of : List Armed → Option Armed
next_of [] = None
next_of (a ∷ rest) = sooner a (next_of rest)

-- it is due where its deadline has come
abbrev pub due_by : ℕ → Option Armed → Option TimerId
due_by now None = None
due_by now (Some a) = if nat_le a.deadline now then Some a.timer else None

abbrev pub due_of : ℕ → List Armed → Option TimerId
due_of now armed = due_by now (next_of armed)

-- the least deadline above a time
abbrev pub lesser : ℕ → Option ℕ → Option ℕ
lesser d None = Some d
lesser d (Some e) = Some (min d e)

unfoldable pub earliest_of : ℕ → List Armed → Option ℕ
earliest_of after [] = None
earliest_of after (a ∷ rest) = if nat_lt after a.deadline then lesser a.deadline (earliest_of after rest) else earliest_of after rest
