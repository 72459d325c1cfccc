-- One list of all waiting demands, and the lists of the keys and priorities that it stands for.
use Rattle.std.specs.Prelude.{◌≡◌, ◌≢◌, ℕ, ◌<◌, Bool, nat_eq, List, length, slice_index_or, Option, Some, None, map, filter}
use Rattle.so_ids.specs.declared.DemandId.{DemandId}
use Rattle.so_queue.specs.declared.plain.Waiting.{Waiting}
use Rattle.so_lists.specs.Lists.{each_below}

abbrev pub is_on : ℕ → Waiting → Bool
is_on s w = nat_eq w.slot s

abbrev pub on_slot : List Waiting → ℕ → List DemandId
on_slot ws s = map (λ (w : Waiting). w.demand) (filter (is_on s) ws)

abbrev pub lists_on : ℕ → List Waiting → List (List DemandId)
lists_on slots ws = each_below (on_slot ws) slots

abbrev pub no_waiting : Waiting
no_waiting = record { slot = 0; demand = record { place = record { 0 = 0 }; k = 0 } }

abbrev pub waiting_at : List Waiting → ℕ → Waiting
waiting_at ws i = slice_index_or ws i no_waiting

-- the first of a slot
pub record IsFirstOn (ws : List Waiting) (s at : ℕ) : Type 0 where
  pub within : at < length ws
  pub here : (waiting_at ws at).slot ≡ s
  pub before : (k : ℕ) → k < at → (waiting_at ws k).slot ≢ s

abbrev pub IsPlaceOf : List Waiting → ℕ → Option ℕ → Type 0
IsPlaceOf ws s None = (k : ℕ) → k < length ws → (waiting_at ws k).slot ≢ s
IsPlaceOf ws s (Some at) = IsFirstOn ws s at
