-- Demands that compare, and three queues, into which six demands come and which are emptied.
use Rattle.std.proofs.Common.{◌≡◌, ◌<◌, ℕ, zero, suc, List, [], ◌∷◌, Bool, true, false, Option, Some, None, refl, arith, inl, inr}
use Rattle.std.specs.Prelude.{map, not, ◌||◌, nat_eq}
use Rattle.std.proofs.lemmas.Bool.{or_cases, eqb-true}
use Rattle.so_ids.specs.declared.DemandId.{DemandId}
use Rattle.so_ids.specs.declared.KeyId.{KeyId}
use Rattle.so_ids.specs.declared.Priority.{Priority}
use Rattle.so_ids.specs.Ids.{same_demand, is_earlier}
use Rattle.so_queue.specs.Queues.{QueueTable, keys_of, is_behind, HasNextFront, IsNextKey, IsAfterAll, no_demands, queue_of, head_of, front_of_key, least_to, after_push, after_take, running_of, after_start, after_end}

abbrev key : ℕ → KeyId
key k = record { 0 = k }

abbrev demand : ℕ → ℕ → DemandId
demand place k = record { place = record { 0 = place }; k = k }

a_demand_is_itself_and_no_other :
    (same_demand (demand 3 1) (demand 3 1) ∷ same_demand (demand 3 1) (demand 3 0) ∷ same_demand (demand 3 1) (demand 2 1) ∷ same_demand (demand 3 1) (demand 1 3) ∷ []) ≡ (true ∷ false ∷ false ∷ false ∷ [])
a_demand_is_itself_and_no_other = refl

-- by place, and then by number
a_demand_is_earlier_than_those_after_it :
    (is_earlier (demand 3 1) (demand 3 1) ∷ is_earlier (demand 3 1) (demand 3 2) ∷ is_earlier (demand 3 2) (demand 3 1) ∷ is_earlier (demand 2 9) (demand 3 0) ∷ is_earlier (demand 3 0) (demand 2 9) ∷ []) ≡ (false ∷ true ∷ false ∷ true ∷ false ∷ [])
a_demand_is_earlier_than_those_after_it = refl

-- ---- what waits

abbrev low : Priority
low = record { level = 0; in_range = omega arith }

abbrev middle : Priority
middle = record { level = 3; in_range = omega arith }

abbrev high : Priority
high = record { level = 7; in_range = omega arith }

-- of key 2 the demands 1.0 and 4.1 are low and 2.0 is high; of key 0 1.1 and 4.0 are middle; of key 1 3.0 is low
abbrev full : QueueTable
full =
    after_push (key 2) low (demand 4 1)
    (after_push (key 0) middle (demand 4 0)
    (after_push (key 1) low (demand 3 0)
    (after_push (key 2) high (demand 2 0)
    (after_push (key 0) middle (demand 1 1)
    (after_push (key 2) low (demand 1 0)
    (no_demands 3 6))))))

-- the first demand of each key
abbrev fronts : QueueTable → List (Option DemandId)
fronts q = front_of_key q.lists 0 ∷ front_of_key q.lists 1 ∷ front_of_key q.lists 2 ∷ []

-- the demand that a take gives
abbrev first : QueueTable → KeyId → Priority → Option DemandId
first q k p = head_of (queue_of q k p)

abbrev without_one : QueueTable
without_one = after_take (key 2) low full

abbrev without_two : QueueTable
without_two = after_take (key 0) middle without_one

abbrev without_three : QueueTable
without_three = after_take (key 1) low without_two

abbrev without_four : QueueTable
without_four = after_take (key 0) middle without_three

abbrev without_five : QueueTable
without_five = after_take (key 2) high without_four

each_list_is_taken_in_order :
    (first full (key 2) low ∷ first without_one (key 0) middle ∷ first without_two (key 1) low ∷ first without_three (key 0) middle ∷ first without_four (key 2) high ∷ first without_five (key 2) low ∷ [])
    ≡ (Some (demand 1 0) ∷ Some (demand 1 1) ∷ Some (demand 3 0) ∷ Some (demand 4 0) ∷ Some (demand 2 0) ∷ Some (demand 4 1) ∷ [])
each_list_is_taken_in_order = refl

-- the front of a key is the least of all its priorities
a_front_is_the_first_of_all_priorities :
    map fronts (full ∷ without_one ∷ without_two ∷ without_three ∷ without_four ∷ without_five ∷ after_take (key 2) low without_five ∷ [])
    ≡ (
    (Some (demand 1 1) ∷ Some (demand 3 0) ∷ Some (demand 1 0) ∷ [])
    ∷ (Some (demand 1 1) ∷ Some (demand 3 0) ∷ Some (demand 2 0) ∷ [])
    ∷ (Some (demand 4 0) ∷ Some (demand 3 0) ∷ Some (demand 2 0) ∷ [])
    ∷ (Some (demand 4 0) ∷ None ∷ Some (demand 2 0) ∷ [])
    ∷ (None ∷ None ∷ Some (demand 2 0) ∷ [])
    ∷ (None ∷ None ∷ Some (demand 4 1) ∷ [])
    ∷ (None ∷ None ∷ None ∷ [])
    ∷ [])
unfolding front_of_key least_to
a_front_is_the_first_of_all_priorities = refl

a_push_takes_room_and_a_take_gives_it_back : (full.room ≡ 0) × (without_one.room ≡ 1) × (without_five.room ≡ 5)
a_push_takes_room_and_a_take_gives_it_back = (refl, refl, refl)

a_demand_that_waits_may_not_be_pushed : (0 < without_two.room) × (IsAfterAll without_two.lists (demand 4 0) → ⊥)
a_demand_that_waits_may_not_be_pushed = (omega arith, λ after. (let earlier = after 3 (demand 4 0) (inl refl) in cc))

-- ---- the ring

-- what another key may have where this front is the next behind a demand, and where none is: no front, one that isn't behind, or a later one
abbrev is_passed : Option DemandId → DemandId → Option DemandId → Bool
is_passed after front None = true
is_passed after front (Some d) = not (is_behind after d) || is_earlier front d

abbrev is_last : Option DemandId → Option DemandId → Bool
is_last after None = true
is_last after (Some d) = not (is_behind after d)

holds_at : (f : ℕ → Bool) (j : ℕ) → j < 3 → f 0 ∷ f 1 ∷ f 2 ∷ [] ≡ true ∷ true ∷ true ∷ [] → f j ≡ true
holds_at f zero l e = cc
holds_at f (suc zero) l e = cc
holds_at f (suc (suc zero)) l e = cc
holds_at f (suc (suc (suc j))) l e = absurd (omega arith)

next : (q : QueueTable) (after : Option DemandId) (k : ℕ) (front : DemandId) → keys_of q ≡ 3 → k < 3 → front_of_key q.lists k ≡ Some front → is_behind after front ≡ true
    → map (λ j. nat_eq j k || is_passed after front (front_of_key q.lists j)) (0 ∷ 1 ∷ 2 ∷ []) ≡ true ∷ true ∷ true ∷ [] → HasNextFront q after (key k)
next q after k front three l waits behind passed = record {
  within = omega arith;
  front = front;
  waits = waits;
  behind = behind;
  least = λ j d m apart is b.
      let test = holds_at (λ i. nat_eq i k || is_passed after front (front_of_key q.lists i)) j (omega arith) passed in
      elim (or_cases (nat_eq j k) (is_passed after front (front_of_key q.lists j)) test) [ inl same ↦ absurd (apart (eqb-true j k same)) | inr late ↦ rw (is, b) at late ];
}

last : (q : QueueTable) (after : Option DemandId) → keys_of q ≡ 3 → map (λ j. is_last after (front_of_key q.lists j)) (0 ∷ 1 ∷ 2 ∷ []) ≡ true ∷ true ∷ true ∷ [] → IsNextKey q after None
last q after three passed = λ j d m is. (let test = holds_at (λ i. is_last after (front_of_key q.lists i)) j (omega arith) passed in let late = rw is at test in grind (arith, late))

-- the keys 2, 0 and 1, by their fronts; and after a take from key 2 the keys 0, 2 and 1
keys_come_in_order_of_their_fronts :
    HasNextFront full None (key 2) × HasNextFront full (Some (demand 1 0)) (key 0) × HasNextFront full (Some (demand 1 1)) (key 1) × IsNextKey full (Some (demand 3 0)) None
    × HasNextFront without_one None (key 0) × HasNextFront without_one (Some (demand 1 1)) (key 2) × HasNextFront without_one (Some (demand 2 0)) (key 1) × IsNextKey without_one (Some (demand 3 0)) None
unfolding front_of_key least_to
keys_come_in_order_of_their_fronts = (
  next full None 2 (demand 1 0) refl (omega arith) refl refl refl,
  next full (Some (demand 1 0)) 0 (demand 1 1) refl (omega arith) refl refl refl,
  next full (Some (demand 1 1)) 1 (demand 3 0) refl (omega arith) refl refl refl,
  last full (Some (demand 3 0)) refl refl,
  next without_one None 0 (demand 1 1) refl (omega arith) refl refl refl,
  next without_one (Some (demand 1 1)) 2 (demand 2 0) refl (omega arith) refl refl refl,
  next without_one (Some (demand 2 0)) 1 (demand 3 0) refl (omega arith) refl refl refl,
  last without_one (Some (demand 3 0)) refl refl,
)

-- ---- running turns

-- how many thread-safe and other turns of key 1 run, and of key 0
abbrev runs : QueueTable → (ℕ × ℕ) × (ℕ × ℕ)
runs q = ((running_of true (key 1) q, running_of false (key 1) q), (running_of true (key 0) q, running_of false (key 0) q))

abbrev two_safe : QueueTable
two_safe = after_start true (key 1) (after_start true (key 1) (no_demands 3 0))

abbrev one_other : QueueTable
one_other = after_start false (key 1) two_safe

turns_are_counted_by_key_and_kind :
    map runs (two_safe ∷ one_other ∷ after_end true (key 1) one_other ∷ after_end false (key 1) (after_end true (key 1) one_other) ∷ [])
    ≡ (((2, 0), (0, 0)) ∷ ((2, 1), (0, 0)) ∷ ((1, 1), (0, 0)) ∷ ((1, 0), (0, 0)) ∷ [])
turns_are_counted_by_key_and_kind = refl
