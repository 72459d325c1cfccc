-- The heap stands for the table of timers, after each change.
use Rattle.std.proofs.Common.{◌≡◌, ℕ, ◌+◌, ◌<◌, ◌≤◌, List, [], ◌∷◌, ◌++◌, length, true, Option, Some, None, arith, refl, sym, ◌∙◌, ap, subst, inl, inr, ◌≢◌}
use Rattle.std.specs.Prelude.{◌⊎◌, slice_set, slice_index_or, is_some, option_map}
use Rattle.std.proofs.lemmas.Bool.{cases_eq, cases_lt, ne_eqb}
use Rattle.std.proofs.lemmas.List.{length_push, length-set, get_or-set_same, get_or-set_other, get_or_append_left, get_or_push, get_or_past}
use Rattle.so_timer.specs.declared.timer.Timer.{Timer}
use Rattle.so_timer.specs.declared.heap.Due.{Due}
use Rattle.so_timer.specs.Heap.{rank_at, due_at, no_due, IsHeap, IsPlaced, IsIn, IsMoved, IsTakenOut, later_due}
use Rattle.so_timer.specs.declared.timer.Armed.{Armed}
use Rattle.so_timer.specs.Timers.{is_armed, timer_of, fired, TimerTable}
use Rattle.so_timer.specs.Slots.{armed_from, armed_timer, timer_again, slot_at}
use Rattle.so_timer.specs.Index.{IsArmed, Matches, IsIndex}
use Rattle.so_timer.proofs.TimerLaws.{timer_of-at, fired-set, armed_from-push, length-set_none, length-set_some}

pub slot_within : (slots : List (Option Timer)) (n : ℕ) (t : Timer) → slot_at slots n ≡ Some t → n < length slots
slot_within slots n t h =
    elim (cases_lt n (length slots)) [ inl l ↦ l | inr past ↦ (let none : slot_at slots n ≡ None = get_or_past slots n None past in cc) ]

pub matches_moved : (slots : List (Option Timer)) (old new : List Due) → Matches slots old → IsMoved old new → Matches slots new
matches_moved slots old new m v = record {
  armed = λ i l. let r = v.found i l in let P : Due → Type 0 = λ d. IsArmed slots d in subst P r.here (m.armed r.place r.within);
  there = λ n t h. let r = m.there n t h in let k = v.kept r.place r.within in record { place = k.place; within = k.within; here = k.here ∙ r.here };
}

-- the place that is kept of a number
pub placed_at : (slots : List (Option Timer)) (places : List ℕ) (heap : List Due) (n : ℕ) (t : Timer) → Matches slots heap → IsPlaced heap places → slot_at slots n ≡ Some t →
    (slice_index_or places n 0 < length heap) × (due_at heap (slice_index_or places n 0) ≡ record { deadline = t.deadline; timer = record { 0 = n } })
placed_at slots places heap n t m p h =
    let r = m.there n t h in
    let number : (due_at heap r.place).timer.0 ≡ n = ap (λ (d : Due). d.timer.0) r.here in
    let is : slice_index_or places n 0 ≡ r.place = ap (λ k. slice_index_or places k 0) (sym number) ∙ p.at_place r.place r.within in
    (rw is r.within, rw is r.here)

-- two places have different numbers
pub other_number : (places : List ℕ) (heap : List Due) (i j : ℕ) → IsPlaced heap places → i < length heap → j < length heap → j ≢ i → (due_at heap j).timer.0 ≢ (due_at heap i).timer.0
other_number places heap i j p il jl d e = d (sym (p.at_place j jl) ∙ ap (λ k. slice_index_or places k 0) e ∙ p.at_place i il)

-- arming
pushed_armed : (slots : List (Option Timer)) (heap : List Due) (due : Due) (t : Timer) (i : ℕ) → Matches slots heap → due.timer.0 ≡ length slots → t.deadline ≡ due.deadline → i < length (heap ++ due ∷ []) →
    (i < length heap) ⊎ (length heap ≤ i) → IsArmed (slots ++ Some t ∷ []) (due_at (heap ++ due ∷ []) i)
pushed_armed slots heap due t i m e d l (inl low) =
    let r = m.armed i low in
    let w = slot_within slots (due_at heap i).timer.0 r.timer r.at in
    let is : due_at (heap ++ due ∷ []) i ≡ due_at heap i = get_or_append_left heap (due ∷ []) no_due i low in
    let P : Due → Type 0 = λ x. IsArmed (slots ++ Some t ∷ []) x in
    subst P (sym is) (record { timer = r.timer; at = get_or_append_left slots (Some t ∷ []) None (due_at heap i).timer.0 w ∙ r.at; same = r.same })
pushed_armed slots heap due t i m e d l (inr high) =
    let here : length heap ≡ i = omega (arith, length_push heap due) in
    let is : due_at (heap ++ due ∷ []) i ≡ due = get_or_push heap due no_due i here in
    let P : Due → Type 0 = λ x. IsArmed (slots ++ Some t ∷ []) x in
    subst P (sym is) (record { timer = t; at = get_or_push slots (Some t) None due.timer.0 (sym e); same = d })

pushed_there : (slots : List (Option Timer)) (heap : List Due) (due : Due) (t u : Timer) (n : ℕ) → Matches slots heap → due.timer.0 ≡ length slots → t.deadline ≡ due.deadline → slot_at (slots ++ Some t ∷ []) n ≡ Some u →
    (n < length slots) ⊎ (length slots ≤ n) → IsIn (heap ++ due ∷ []) (record { deadline = u.deadline; timer = record { 0 = n } })
pushed_there slots heap due t u n m e d h (inl low) =
    let was : slot_at slots n ≡ Some u = sym (get_or_append_left slots (Some t ∷ []) None n low) ∙ h in
    let r = m.there n u was in
    record { place = r.place; within = omega (arith, length_push heap due, r.within); here = get_or_append_left heap (due ∷ []) no_due r.place r.within ∙ r.here }
pushed_there slots heap due t u n m e d h (inr high) =
    let w : n < length (slots ++ Some t ∷ []) = slot_within (slots ++ Some t ∷ []) n u h in
    let here : length slots ≡ n = omega (arith, length_push slots (Some t)) in
    let is : Some t ≡ Some u = sym (get_or_push slots (Some t) None n here) ∙ h in
    let same : t ≡ u = cc in
    let one : due.deadline ≡ u.deadline = sym d ∙ ap (λ (x : Timer). x.deadline) same in
    let two : due.timer.0 ≡ n = e ∙ here in
    let all : due ≡ record { deadline = u.deadline; timer = record { 0 = n } } = rw (← one, ← two) refl in
    record { place = length heap; within = omega (arith, length_push heap due); here = get_or_push heap due no_due (length heap) refl ∙ all }

pub matches_pushed : (slots : List (Option Timer)) (heap : List Due) (due : Due) (t : Timer) → Matches slots heap → due.timer.0 ≡ length slots → t.deadline ≡ due.deadline → Matches (slots ++ Some t ∷ []) (heap ++ due ∷ [])
matches_pushed slots heap due t m e d = record {
  armed = λ i l. pushed_armed slots heap due t i m e d l (cases_lt i (length heap));
  there = λ n u h. pushed_there slots heap due t u n m e d h (cases_lt n (length slots));
}

pub index_pushed : (slots : List (Option Timer)) (places places' : List ℕ) (heap heap' : List Due) (due : Due) (t : Timer) → IsIndex slots places heap → due.timer.0 ≡ length slots → t.deadline ≡ due.deadline →
    IsHeap (rank_at heap') (length heap') → IsPlaced heap' places' → IsMoved (heap ++ due ∷ []) heap' → length places' ≡ length places + 1 → IsIndex (slots ++ Some t ∷ []) places' heap'
index_pushed slots places places' heap heap' due t x e d o p v l = record {
  table = l ∙ ap (λ n. n + 1) x.table ∙ sym (length_push slots (Some t));
  order = o;
  placed = p;
  matches = matches_moved (slots ++ Some t ∷ []) (heap ++ due ∷ []) heap' (matches_pushed slots heap due t x.matches e d) v;
  count = ap length (armed_from-push 0 (length slots) slots t (omega arith)) ∙ length_push (armed_from 0 slots) (armed_timer (length slots) t) ∙ ap (λ n. n + 1) x.count ∙ sym (length_push heap due) ∙ sym v.len;
}

-- disarming
pub matches_taken : (slots : List (Option Timer)) (places : List ℕ) (old new : List Due) (i n : ℕ) → Matches slots old → IsPlaced old places → IsTakenOut old new i → i < length old → (due_at old i).timer.0 ≡ n → Matches (slice_set slots n None) new
matches_taken slots places old new i n m p v il e = record {
  armed = λ k kl.
      let r = v.found k kl in
      let a = m.armed r.place r.within in
      let ne : (due_at old r.place).timer.0 ≢ n = λ h. other_number places old i r.place p il r.within r.other (h ∙ sym e) in
      let P : Due → Type 0 = λ x. IsArmed (slice_set slots n None) x in
      subst P r.here (record { timer = a.timer; at = get_or-set_other slots n (due_at old r.place).timer.0 None None ne ∙ a.at; same = a.same });
  there = λ q t h.
      elim (cases_eq q n) [
        | inl here ↦
            (let w : q < length (slice_set slots n None) = slot_within (slice_set slots n None) q t h in
            let wn : n < length slots = omega (arith, length-set slots n None) in
            let none : slot_at (slice_set slots n None) q ≡ None = ap (slot_at (slice_set slots n None)) here ∙ get_or-set_same slots n None None wn in
            cc)
        | inr other ↦
            (let was : slot_at slots q ≡ Some t = sym (get_or-set_other slots n q None None other) ∙ h in
            let r = m.there q t was in
            let ne : r.place ≢ i = λ same. other (sym (ap (λ (x : Due). x.timer.0) r.here) ∙ ap (λ j. (due_at old j).timer.0) same ∙ e) in
            let k = v.kept r.place r.within ne in
            record { place = k.place; within = k.within; here = k.here ∙ r.here })
      ];
}

pub index_taken : (slots : List (Option Timer)) (places places' : List ℕ) (heap heap' : List Due) (i n : ℕ) (t : Timer) → IsIndex slots places heap → slot_at slots n ≡ Some t → i < length heap → (due_at heap i).timer.0 ≡ n →
    IsHeap (rank_at heap') (length heap') → IsPlaced heap' places' → IsTakenOut heap heap' i → length places' ≡ length places → IsIndex (slice_set slots n None) places' heap'
index_taken slots places places' heap heap' i n t x h il e o p v l = record {
  table = l ∙ x.table ∙ sym (length-set slots n None);
  order = o;
  placed = p;
  matches = matches_taken slots places heap heap' i n x.matches x.placed v il e;
  count = omega (arith, length-set_none 0 n slots t h, x.count, v.len);
}

-- another deadline
pub matches_changed : (slots : List (Option Timer)) (places : List ℕ) (heap : List Due) (i n : ℕ) (t u : Timer) → Matches slots heap → IsPlaced heap places → slot_at slots n ≡ Some t → i < length heap → (due_at heap i).timer.0 ≡ n →
    Matches (slice_set slots n (Some u)) (slice_set heap i (later_due u.deadline (due_at heap i)))
matches_changed slots places heap i n t u m p h il e =
    let due = later_due u.deadline (due_at heap i) in
    let wn : n < length slots = slot_within slots n t h in record {
      armed = λ k kl.
          elim (cases_eq k i) [
            | inl here ↦
                (let is : due_at (slice_set heap i due) k ≡ due = ap (due_at (slice_set heap i due)) here ∙ get_or-set_same heap i due no_due il in
                let P : Due → Type 0 = λ x. IsArmed (slice_set slots n (Some u)) x in
                subst P (sym is) (record { timer = u; at = ap (slot_at (slice_set slots n (Some u))) e ∙ get_or-set_same slots n (Some u) None wn; same = refl }))
            | inr other ↦
                (let kl' : k < length heap = omega (arith, length-set heap i due) in
                let a = m.armed k kl' in
                let ne : (due_at heap k).timer.0 ≢ n = λ s. other_number places heap i k p il kl' other (s ∙ sym e) in
                let is : due_at (slice_set heap i due) k ≡ due_at heap k = get_or-set_other heap i k due no_due other in
                let P : Due → Type 0 = λ x. IsArmed (slice_set slots n (Some u)) x in
                subst P (sym is) (record { timer = a.timer; at = get_or-set_other slots n (due_at heap k).timer.0 (Some u) None ne ∙ a.at; same = a.same }))
          ];
      there = λ q v hq.
          elim (cases_eq q n) [
            | inl here ↦
                (let is : Some u ≡ Some v = sym (ap (slot_at (slice_set slots n (Some u))) here ∙ get_or-set_same slots n (Some u) None wn) ∙ hq in
                let same : u ≡ v = cc in
                let number : (due_at heap i).timer.0 ≡ q = e ∙ sym here in
                let all : due ≡ record { deadline = v.deadline; timer = record { 0 = q } } = rw (← same, ← number) refl in
                record { place = i; within = rw (length-set heap i due) il; here = get_or-set_same heap i due no_due il ∙ all })
            | inr other ↦
                (let was : slot_at slots q ≡ Some v = sym (get_or-set_other slots n q (Some u) None other) ∙ hq in
                let r = m.there q v was in
                let ne : r.place ≢ i = λ same. other (sym (ap (λ (x : Due). x.timer.0) r.here) ∙ ap (λ j. (due_at heap j).timer.0) same ∙ e) in
                record { place = r.place; within = rw (length-set heap i due) r.within; here = get_or-set_other heap i r.place due no_due ne ∙ r.here })
          ];
    }

pub index_changed : (slots : List (Option Timer)) (places places' : List ℕ) (heap heap' : List Due) (i n : ℕ) (t u : Timer) → IsIndex slots places heap → slot_at slots n ≡ Some t → i < length heap → (due_at heap i).timer.0 ≡ n →
    IsHeap (rank_at heap') (length heap') → IsPlaced heap' places' → IsMoved (slice_set heap i (later_due u.deadline (due_at heap i))) heap' → length places' ≡ length places → IsIndex (slice_set slots n (Some u)) places' heap'
index_changed slots places places' heap heap' i n t u x h il e o p v l = record {
  table = l ∙ x.table ∙ sym (length-set slots n (Some u));
  order = o;
  placed = p;
  matches = matches_moved (slice_set slots n (Some u)) _ heap' (matches_changed slots places heap i n t u x.matches x.placed h il e) v;
  count = length-set_some 0 n slots t u h ∙ x.count ∙ sym (length-set heap i (later_due u.deadline (due_at heap i))) ∙ sym v.len;
}

pub index_empty : (slots : List (Option Timer)) (places : List ℕ) (heap : List Due) → slots ≡ [] → places ≡ [] → heap ≡ [] → IsIndex slots places heap
unfolding armed_from
index_empty slots places heap s p h = rw (s, p, h) (record {
  table = refl;
  order = record { edges = λ q k b l. absurd (omega arith) };
  placed = record { in_range = λ i l. absurd (omega arith); at_place = λ i l. absurd (omega arith) };
  matches = record { armed = λ i l. absurd (omega arith); there = λ n t e. cc };
  count = refl;
})

some_mapped : (n : ℕ) (o : Option Timer) → is_some (option_map (armed_timer n) o) ≡ true → (t : Timer) × (o ≡ Some t)
some_mapped n None h = cc
some_mapped n (Some t) h = (t, refl)

-- an armed timer has a slot
pub armed_slot : (n : ℕ) (slots : List (Option Timer)) → is_armed n (armed_from 0 slots) ≡ true → (t : Timer) × (slot_at slots n ≡ Some t)
armed_slot n slots h = some_mapped n (slot_at slots n) (rw (timer_of-at n 0 n slots (omega arith)) at h)

-- the slot of the timer, its place, and what stands there
pub record Found (n : ℕ) (slots : List (Option Timer)) (places : List ℕ) (heap : List Due) : Type 0 where
  pub timer : Timer
  pub slot : slot_at slots n ≡ Some timer
  pub slots_in : n < length slots
  pub places_in : n < length places
  pub heap_in : slice_index_or places n 0 < length heap
  pub here : (due_at heap (slice_index_or places n 0)).timer.0 ≡ n

pub found : (n : ℕ) (slots : List (Option Timer)) (places : List ℕ) (heap : List Due) (v : TimerTable) → armed_from 0 slots ≡ v.armed → is_armed n v.armed ≡ true → IsIndex slots places heap → Found n slots places heap
found n slots places heap v e armed x =
    let h = armed_slot n slots (rw e armed) in
    let w = slot_within slots n h.0 h.1 in
    let p = placed_at slots places heap n h.0 x.matches x.placed h.1 in
    record { timer = h.0; slot = h.1; slots_in = w; places_in = omega (arith, x.table); heap_in = p.0; here = ap (λ (d : Due). d.timer.0) p.1 }

slot_is_mapped : (n : ℕ) (o : Option Timer) (t : Timer) → option_map (armed_timer n) o ≡ Some (armed_timer n t) → o ≡ Some t
slot_is_mapped n None t h = cc
slot_is_mapped n (Some u) t h =
    let e : armed_timer n u ≡ armed_timer n t = cc in
    let timer : Armed → Timer = λ a. record { deadline = a.deadline; period = a.period; task = a.task } in
    let same : u ≡ t = ap timer e in ap (λ (x : Timer). Some x) same

pub slot_is : (n : ℕ) (slots : List (Option Timer)) (t : Timer) → timer_of n (armed_from 0 slots) ≡ Some (armed_timer n t) → slot_at slots n ≡ Some t
slot_is n slots t h = slot_is_mapped n (slot_at slots n) t (sym (timer_of-at n 0 n slots (omega arith)) ∙ h)

-- a timer without a period is gone after its fire
pub single_fired : (n : ℕ) (slots : List (Option Timer)) (t : Timer) (a : Armed) → slot_at slots n ≡ Some t → timer_of n (armed_from 0 slots) ≡ Some a → a.period ≡ 0 → armed_from 0 (slice_set slots n None) ≡ fired n (armed_from 0 slots)
single_fired n slots t a h e p =
    let at = timer_of-at n 0 n slots (omega arith) in
    let is : Some (armed_timer n t) ≡ Some a = ap (option_map (armed_timer n)) (sym h) ∙ sym at ∙ e in
    let same : armed_timer n t ≡ a = cc in
    let period : t.period ≡ 0 = ap (λ (x : Armed). x.period) same ∙ p in
    let again : timer_again t ≡ None = rw period refl in
    ap (λ o. armed_from 0 (slice_set slots n o)) (sym again) ∙ fired-set n 0 n slots t (omega arith) h

-- one with a period is armed anew
pub period_fired : (n : ℕ) (slots : List (Option Timer)) (t u : Timer) → slot_at slots n ≡ Some t → t.period ≢ 0 → u ≡ record t { deadline = t.deadline + t.period } → armed_from 0 (slice_set slots n (Some u)) ≡ fired n (armed_from 0 slots)
period_fired n slots t u h p e =
    let again : timer_again t ≡ Some u = rw (ne_eqb t.period 0 p, e) refl in
    ap (λ o. armed_from 0 (slice_set slots n o)) (sym again) ∙ fired-set n 0 n slots t (omega arith) h

pub slot_armed_is : (n : ℕ) (slots : List (Option Timer)) (t : Timer) → slot_at slots n ≡ Some t → is_armed n (armed_from 0 slots) ≡ true
slot_armed_is n slots t h = rw (timer_of-at n 0 n slots (omega arith), h) refl
