-- The least deadline above a time.
use Rattle.std.proofs.Common.{◌≡◌, ℕ, zero, suc, ◌+◌, ◌<◌, ◌≤◌, ◌^◌, List, [], ◌∷◌, length, Bool, true, false, cond, Option, Some, None, arith, refl, ap, subst, inl, inr, min}
use Rattle.std.specs.Prelude.{nat_lt}
use Rattle.std.proofs.lemmas.Bool.{cases_lt, ltb-true, ltb-false}
use Rattle.so_timer.specs.declared.timer.Timer.{Timer}
use Rattle.so_timer.specs.declared.heap.Due.{Due}
use Rattle.so_timer.specs.Heap.{rank_at, due_at, IsHeap, IsEarliest}
use Rattle.so_timer.specs.declared.timer.Armed.{Armed}
use Rattle.so_timer.specs.Timers.{lesser, earliest_of}
use Rattle.so_timer.proofs.NextLaws.{root_least}
use Rattle.so_timer.specs.Slots.{armed_from, slot_armed, slot_at}
use Rattle.so_timer.specs.Index.{Matches}

-- a loop's step
pub earliest_no : (heap : List Due) (i after : ℕ) (best : Option ℕ) → (due_at heap i).deadline ≤ after → IsEarliest heap i after best → IsEarliest heap (i + 1) after best
earliest_no heap i after None l e = λ k kl. elim (cases_lt k i) [ inl low ↦ e k low | inr high ↦ (let same : i ≡ k = omega arith in let P : ℕ → Type 0 = λ j. (due_at heap j).deadline ≤ after in subst P same l) ]
earliest_no heap i after (Some d) l e = record {
  above = e.above;
  least = λ k kl a. elim (cases_lt k i) [ inl low ↦ e.least k low a | inr high ↦ (let same : i ≡ k = omega arith in let P : ℕ → Type 0 = λ j. (due_at heap j).deadline ≤ after in let le = subst P same l in absurd (omega arith)) ];
  place = e.place;
  within = omega (arith, e.within);
  here = e.here;
}

pub earliest_yes : (heap : List Due) (i after : ℕ) (best : Option ℕ) → after < (due_at heap i).deadline → IsEarliest heap i after best → IsEarliest heap (i + 1) after (lesser (due_at heap i).deadline best)
earliest_yes heap i after None l e = record {
  above = l;
  least = λ k kl a. elim (cases_lt k i) [
    | inl low ↦ (let le = e k low in absurd (omega arith))
    | inr high ↦ (let same : i ≡ k = omega arith in let P : ℕ → Type 0 = λ j. (due_at heap i).deadline ≤ (due_at heap j).deadline in subst P same (omega arith))
  ];
  place = i;
  within = omega arith;
  here = refl;
}
earliest_yes heap i after (Some d) l e =
    elim (cases_lt (due_at heap i).deadline d) [
      | inl less ↦
          (let is : min (due_at heap i).deadline d ≡ (due_at heap i).deadline = omega arith in
          rw is (record {
            above = l;
            least = λ k kl a. elim (cases_lt k i) [
              | inl low ↦ (let le = e.least k low a in omega arith)
              | inr high ↦ (let same : i ≡ k = omega arith in let P : ℕ → Type 0 = λ j. (due_at heap i).deadline ≤ (due_at heap j).deadline in subst P same (omega arith))
            ];
            place = i;
            within = omega arith;
            here = refl;
          }))
      | inr more ↦
          (let is : min (due_at heap i).deadline d ≡ d = omega arith in
          rw is (record {
            above = e.above;
            least = λ k kl a. elim (cases_lt k i) [
              | inl low ↦ e.least k low a
              | inr high ↦ (let same : i ≡ k = omega arith in let P : ℕ → Type 0 = λ j. d ≤ (due_at heap j).deadline in subst P same more)
            ];
            place = e.place;
            within = omega (arith, e.within);
            here = e.here;
          }))
    ]

earliest_by : (heap : List Due) (i after : ℕ) (best : Option ℕ) (b : Bool) → nat_lt after (due_at heap i).deadline ≡ b → IsEarliest heap i after best → IsEarliest heap (i + 1) after (cond b (lesser (due_at heap i).deadline best) best)
earliest_by heap i after best true h e = earliest_yes heap i after best (ltb-true after (due_at heap i).deadline h) e
earliest_by heap i after best false h e = earliest_no heap i after best (ltb-false after (due_at heap i).deadline h) e

pub earliest_step : (heap : List Due) (i after d : ℕ) (best r : Option ℕ) → d ≡ (due_at heap i).deadline → r ≡ cond (nat_lt after d) (lesser d best) best → IsEarliest heap i after best → IsEarliest heap (i + 1) after r
earliest_step heap i after d best r s h e = rw (h, s) (earliest_by heap i after best (nat_lt after (due_at heap i).deadline) refl e)

-- what the definition says of the table
record IsLeastSlot (slots : List (Option Timer)) (after d : ℕ) : Type 0 where
  above : after < d
  least : (i : ℕ) (t : Timer) → slot_at slots i ≡ Some t → after < t.deadline → d ≤ t.deadline
  place : ℕ
  timer : Timer
  at : slot_at slots place ≡ Some timer
  here : timer.deadline ≡ d

abbrev IsEarliestSlot : List (Option Timer) → ℕ → Option ℕ → Type 0
IsEarliestSlot slots after None = (i : ℕ) (t : Timer) → slot_at slots i ≡ Some t → t.deadline ≤ after
IsEarliestSlot slots after (Some d) = IsLeastSlot slots after d

none_at : (rest : List (Option Timer)) (after : ℕ) (P : Timer → Type 0) → ((i : ℕ) (t : Timer) → slot_at rest i ≡ Some t → P t) → (i : ℕ) (t : Timer) → slot_at (None ∷ rest) i ≡ Some t → P t
none_at rest after P f zero t h = cc
none_at rest after P f (suc i) t h = f i t h

slot_empty : (rest : List (Option Timer)) (after : ℕ) (e : Option ℕ) → IsEarliestSlot rest after e → IsEarliestSlot (None ∷ rest) after e
slot_empty rest after None e = none_at rest after (λ t. t.deadline ≤ after) e
slot_empty rest after (Some d) e = record { above = e.above; least = none_at rest after (λ t. after < t.deadline → d ≤ t.deadline) e.least; place = suc e.place; timer = e.timer; at = e.at; here = e.here }

some_at : (u : Timer) (rest : List (Option Timer)) (P : Timer → Type 0) → P u → ((i : ℕ) (t : Timer) → slot_at rest i ≡ Some t → P t) → (i : ℕ) (t : Timer) → slot_at (Some u ∷ rest) i ≡ Some t → P t
some_at u rest P p f zero t h = let same : u ≡ t = cc in subst P same p
some_at u rest P p f (suc i) t h = f i t h

slot_low : (u : Timer) (rest : List (Option Timer)) (after : ℕ) (e : Option ℕ) → u.deadline ≤ after → IsEarliestSlot rest after e → IsEarliestSlot (Some u ∷ rest) after e
slot_low u rest after None l e = some_at u rest (λ t. t.deadline ≤ after) l e
slot_low u rest after (Some d) l e = record { above = e.above; least = some_at u rest (λ t. after < t.deadline → d ≤ t.deadline) (λ a. absurd (omega arith)) e.least; place = suc e.place; timer = e.timer; at = e.at; here = e.here }

slot_high : (u : Timer) (rest : List (Option Timer)) (after : ℕ) (e : Option ℕ) → after < u.deadline → IsEarliestSlot rest after e → IsEarliestSlot (Some u ∷ rest) after (lesser u.deadline e)
slot_high u rest after None l e = record {
  above = l;
  least = some_at u rest (λ t. after < t.deadline → u.deadline ≤ t.deadline) (λ a. omega arith) (λ i t h a. let le = e i t h in absurd (omega arith));
  place = 0;
  timer = u;
  at = refl;
  here = refl;
}
slot_high u rest after (Some d) l e =
    elim (cases_lt u.deadline d) [
      | inl less ↦
          (let is : min u.deadline d ≡ u.deadline = omega arith in
          rw is (record {
            above = l;
            least = some_at u rest (λ t. after < t.deadline → u.deadline ≤ t.deadline) (λ a. omega arith) (λ i t h a. let le = e.least i t h a in omega arith);
            place = 0;
            timer = u;
            at = refl;
            here = refl;
          }))
      | inr more ↦
          (let is : min u.deadline d ≡ d = omega arith in
          rw is (record {
            above = e.above;
            least = some_at u rest (λ t. after < t.deadline → d ≤ t.deadline) (λ a. more) e.least;
            place = suc e.place;
            timer = e.timer;
            at = e.at;
            here = e.here;
          }))
    ]

slot_step : (u : Timer) (rest : List (Option Timer)) (after : ℕ) (e : Option ℕ) (b : Bool) → nat_lt after u.deadline ≡ b → IsEarliestSlot rest after e → IsEarliestSlot (Some u ∷ rest) after (cond b (lesser u.deadline e) e)
slot_step u rest after e true h x = slot_high u rest after e (ltb-true after u.deadline h) x
slot_step u rest after e false h x = slot_low u rest after e (ltb-false after u.deadline h) x

slot_any : (m : ℕ) (o : Option Timer) (rest : List (Option Timer)) (xs : List Armed) (after : ℕ) → IsEarliestSlot rest after (earliest_of after xs) → IsEarliestSlot (o ∷ rest) after (earliest_of after (slot_armed m o xs))
unfolding earliest_of
slot_any m None rest xs after e = slot_empty rest after (earliest_of after xs) e
slot_any m (Some u) rest xs after e = slot_step u rest after (earliest_of after xs) (nat_lt after u.deadline) refl e

earliest_slot : (m : ℕ) (slots : List (Option Timer)) (after : ℕ) → IsEarliestSlot slots after (earliest_of after (armed_from m slots))
unfolding earliest_of armed_from
earliest_slot m [] after = λ i t h. cc
earliest_slot m (o ∷ rest) after = slot_any m o rest (armed_from (m + 1) rest) after (earliest_slot (m + 1) rest after)

same_earliest : (slots : List (Option Timer)) (heap : List Due) (after : ℕ) (r e : Option ℕ) → Matches slots heap → IsEarliest heap (length heap) after r → IsEarliestSlot slots after e → r ≡ e
same_earliest slots heap after None None m x y = refl
same_earliest slots heap after None (Some d) m x y =
    let p = m.there y.place y.timer y.at in
    let le = x p.place p.within in
    let is : (due_at heap p.place).deadline ≡ y.timer.deadline = ap (λ (z : Due). z.deadline) p.here in
    absurd (omega (arith, y.above, y.here))
same_earliest slots heap after (Some d) None m x y =
    let a = m.armed x.place x.within in
    let le = y (due_at heap x.place).timer.0 a.timer a.at in
    absurd (omega (arith, x.above, x.here, a.same))
same_earliest slots heap after (Some d) (Some f) m x y =
    let p = m.there y.place y.timer y.at in
    let is : (due_at heap p.place).deadline ≡ y.timer.deadline = ap (λ (z : Due). z.deadline) p.here in
    let a = m.armed x.place x.within in
    let one : d ≤ (due_at heap p.place).deadline = x.least p.place p.within (omega (arith, y.above, y.here)) in
    let two : f ≤ a.timer.deadline = y.least (due_at heap x.place).timer.0 a.timer a.at (omega (arith, x.above, x.here, a.same)) in
    let same : d ≡ f = omega (arith, x.here, a.same, y.here) in
    ap (λ (n : ℕ). Some n) same

pub earliest_is : (slots : List (Option Timer)) (heap : List Due) (after : ℕ) (r : Option ℕ) → Matches slots heap → IsEarliest heap (length heap) after r → r ≡ earliest_of after (armed_from 0 slots)
earliest_is slots heap after r m x = same_earliest slots heap after r (earliest_of after (armed_from 0 slots)) m x (earliest_slot 0 slots after)

-- the first of the heap, where it is above the time
pub root_earliest : (heap : List Due) (after : ℕ) → IsHeap (rank_at heap) (length heap) → ((i : ℕ) → i < length heap → (due_at heap i).timer.0 < 2 ^ 32) → 0 < length heap → after < (due_at heap 0).deadline →
    IsEarliest heap (length heap) after (Some (due_at heap 0).deadline)
root_earliest heap after h few some above = record {
  above = above;
  least = λ i l a. (let le : rank_at heap 0 ≤ rank_at heap i = root_least (rank_at heap) (length heap) i h l in let n = few i l in omega arith);
  place = 0;
  within = some;
  here = refl;
}
