-- The heap and the table of places, as an index of the table of slots.
use Rattle.std.specs.Prelude.{◌≡◌, ℕ, ◌<◌, ◌≤◌, ◌^◌, List, length, Option, Some}
use Rattle.so_timer.specs.declared.timer.Timer.{Timer}
use Rattle.so_timer.specs.declared.heap.Due.{Due}
use Rattle.so_timer.specs.Heap.{rank_at, due_at, IsHeap, IsPlaced, IsIn}
use Rattle.so_timer.specs.Slots.{slot_at, armed_from}

-- the element is of a timer that is armed
pub record IsArmed (slots : List (Option Timer)) (due : Due) : Type 0 where
  pub timer : Timer
  pub at : slot_at slots due.timer.0 ≡ Some timer
  pub same : timer.deadline ≡ due.deadline

-- the heap has an element for each armed timer, and no other
pub record Matches (slots : List (Option Timer)) (heap : List Due) : Type 0 where
  pub armed : (i : ℕ) → i < length heap → IsArmed slots (due_at heap i)
  pub there : (n : ℕ) (t : Timer) → slot_at slots n ≡ Some t → IsIn heap (record { deadline = t.deadline; timer = record { 0 = n } })

pub record IsIndex (slots : List (Option Timer)) (places : List ℕ) (heap : List Due) : Type 0 where
  pub table : length places ≡ length slots
  pub order : IsHeap (rank_at heap) (length heap)
  pub placed : IsPlaced heap places
  pub matches : Matches slots heap
  pub count : length (armed_from 0 slots) ≡ length heap

-- the room that was reserved
pub record HasRoom (slots heap cap total for_slots for_places for_heap : ℕ) : Type 0 where
  pub all : slots ≤ total
  pub now : heap ≤ cap
  pub slots_room : total ≤ for_slots
  pub places_room : total ≤ for_places
  pub heap_room : cap ≤ for_heap
  pub few : cap < 2 ^ 32
  pub few_in_all : total < 2 ^ 32
