-- The first of the heap is the next timer.
use Rattle.std.proofs.Common.{◌≡◌, ℕ, zero, suc, ◌+◌, ◌*◌, ◌<◌, ◌≤◌, ◌^◌, ◌/◌, List, [], ◌∷◌, length, Bool, true, false, Option, Some, None, arith, refl, ◌∙◌, ap, subst, inl, inr}
use Rattle.std.specs.Prelude.{◌⊎◌, nat_lt, nat_le, nat_eq, ◌&&◌}
use Rattle.std.proofs.lemmas.Bool.{cases_Bool, or_cases, and_parts, or_parts, and_cases, ltb-true, ltb-false, leb-true, leb-false, eqb-true, eqb-false}
use Rattle.std.proofs.lemmas.List.{nil_from_length}
use Rattle.so_timer.specs.declared.timer.Timer.{Timer}
use Rattle.so_timer.specs.declared.heap.Due.{Due}
use Rattle.so_timer.specs.Heap.{rank, rank_at, due_at, IsHeap, IsBelow}
use Rattle.so_timer.specs.declared.timer.Armed.{Armed}
use Rattle.so_timer.specs.Timers.{comes_first, sooner, next_of}
use Rattle.so_timer.specs.Slots.{armed_from, slot_armed, armed_timer, slot_at}
use Rattle.so_timer.specs.Index.{IsIndex}
use Rattle.so_timer.proofs.IndexLaws.{slot_within}

root_within : (f : ℕ → ℕ) (n fuel k : ℕ) → IsHeap f n → k < n → k ≤ fuel → f 0 ≤ f k
root_within f n fuel zero h l e = omega arith
root_within f n zero (suc k) h l e = absurd (omega arith)
root_within f n (suc fuel) (suc k) h l e =
    let p : ℕ = k / 2 in
    let b : IsBelow (k / 2) (suc k) = record { first = omega arith; last = omega arith } in
    let up : f 0 ≤ f (k / 2) = root_within f n fuel (k / 2) h (omega arith) (omega arith) in
    let edge : f (k / 2) ≤ f (suc k) = h.edges (k / 2) (suc k) b l in omega arith

-- the first is the least
pub root_least : (f : ℕ → ℕ) (n k : ℕ) → IsHeap f n → k < n → f 0 ≤ f k
root_least f n k h l = root_within f n k k h l (omega arith)

abbrev pub order_of : Armed → ℕ
order_of a = a.deadline * 2 ^ 32 + a.timer.0

first_true : (a b : Armed) → comes_first a b ≡ true → a.timer.0 < 2 ^ 32 → order_of a ≤ order_of b
first_true a b h l =
    elim (or_cases (nat_lt a.deadline b.deadline) (nat_eq a.deadline b.deadline && nat_le a.timer.0 b.timer.0) h) [
      | inl x ↦ (let lt = ltb-true a.deadline b.deadline x in omega arith)
      | inr y ↦
          (let p = and_parts (nat_eq a.deadline b.deadline) (nat_le a.timer.0 b.timer.0) y in
          let e = eqb-true a.deadline b.deadline p.0 in
          let le = leb-true a.timer.0 b.timer.0 p.1 in omega arith)
    ]

first_false : (a b : Armed) → comes_first a b ≡ false → b.timer.0 < 2 ^ 32 → order_of b ≤ order_of a
first_false a b h l =
    let p = or_parts (nat_lt a.deadline b.deadline) (nat_eq a.deadline b.deadline && nat_le a.timer.0 b.timer.0) h in
    let ge = ltb-false a.deadline b.deadline p.0 in
    elim (and_cases (nat_eq a.deadline b.deadline) (nat_le a.timer.0 b.timer.0) p.1) [
      | inl x ↦ (let ne = eqb-false a.deadline b.deadline x in omega arith)
      | inr y ↦ (let lt = leb-false a.timer.0 b.timer.0 y in omega arith)
    ]

-- the sooner of two is one of them, and before both
record IsSooner (a b r : Armed) : Type 0 where
  one : (r ≡ a) ⊎ (r ≡ b)
  before_a : order_of r ≤ order_of a
  before_b : order_of r ≤ order_of b

sooner_of : (a b : Armed) (t : Bool) → comes_first a b ≡ t → a.timer.0 < 2 ^ 32 → b.timer.0 < 2 ^ 32 → (r : Armed) × (sooner a (Some b) ≡ Some r) × IsSooner a b r
sooner_of a b true h l m = let le = first_true a b h l in (a, rw h refl, record { one = inl refl; before_a = omega arith; before_b = omega arith })
sooner_of a b false h l m = let le = first_false a b h m in (b, rw h refl, record { one = inr refl; before_a = omega arith; before_b = omega arith })

-- the next timer is one of the table
pub record IsAt (m : ℕ) (slots : List (Option Timer)) (r : Armed) : Type 0 where
  pub place : ℕ
  pub timer : Timer
  pub at : slot_at slots place ≡ Some timer
  pub is : r ≡ armed_timer (m + place) timer

at_next : (m : ℕ) (o : Option Timer) (rest : List (Option Timer)) (r : Armed) → IsAt (m + 1) rest r → IsAt m (o ∷ rest) r
at_next m o rest r x =
    let e : (m + 1) + x.place ≡ m + suc x.place = omega arith in
    record { place = suc x.place; timer = x.timer; at = x.at; is = x.is ∙ ap (λ n. armed_timer n x.timer) e }

at_first : (m : ℕ) (t : Timer) (rest : List (Option Timer)) (r : Armed) → r ≡ armed_timer m t → IsAt m (Some t ∷ rest) r
at_first m t rest r e =
    let z : m ≡ m + 0 = omega arith in
    record { place = 0; timer = t; at = refl; is = e ∙ ap (λ n. armed_timer n t) z }

pick_at : (m : ℕ) (t : Timer) (rest : List (Option Timer)) (x : Option Armed) (r : Armed) → ((b : Armed) → x ≡ Some b → IsAt (m + 1) rest b) → sooner (armed_timer m t) x ≡ Some r → IsAt m (Some t ∷ rest) r
pick_at m t rest None r f h = at_first m t rest r (cc)
pick_at m t rest (Some b) r f h =
    elim (cases_Bool (comes_first (armed_timer m t) b)) [
      | inl yes_first ↦ at_first m t rest r (let e = (rw yes_first at h) in cc)
      | inr not_first ↦ (let e = (rw not_first at h) in let same : b ≡ r = cc in let P : Armed → Type 0 = λ z. IsAt m (Some t ∷ rest) z in subst P same (at_next m (Some t) rest b (f b refl)))
    ]

next_at_slot : (m : ℕ) (o : Option Timer) (rest : List (Option Timer)) (xs : List Armed) (r : Armed) → ((b : Armed) → next_of xs ≡ Some b → IsAt (m + 1) rest b) → next_of (slot_armed m o xs) ≡ Some r → IsAt m (o ∷ rest) r
unfolding next_of
next_at_slot m None rest xs r f h = at_next m None rest r (f r h)
next_at_slot m (Some t) rest xs r f h = pick_at m t rest (next_of xs) r f h

pub next_at : (m : ℕ) (slots : List (Option Timer)) (r : Armed) → next_of (armed_from m slots) ≡ Some r → IsAt m slots r
unfolding next_of armed_from
next_at m [] r h = cc
next_at m (o ∷ rest) r h = next_at_slot m o rest (armed_from (m + 1) rest) r (λ b e. next_at (m + 1) rest b e) h

-- and before each of the table
small_at : (m : ℕ) (slots : List (Option Timer)) (r : Armed) → IsAt m slots r → m + length slots ≤ 2 ^ 32 → r.timer.0 < 2 ^ 32
small_at m slots r x l =
    let w = slot_within slots x.place x.timer x.at in
    let e : r.timer.0 ≡ m + x.place = ap (λ (a : Armed). a.timer.0) x.is in omega arith

pub record IsNextBefore (o : Option Armed) (a : Armed) : Type 0 where
  pub next : Armed
  pub is : o ≡ Some next
  pub before : order_of next ≤ order_of a

first_before : (m : ℕ) (t : Timer) (rest : List (Option Timer)) (x : Option Armed) → ((b : Armed) → x ≡ Some b → b.timer.0 < 2 ^ 32) → m < 2 ^ 32 → IsNextBefore (sooner (armed_timer m t) x) (armed_timer m t)
first_before m t rest None f l = record { next = armed_timer m t; is = refl; before = omega arith }
first_before m t rest (Some b) f l =
    let s = sooner_of (armed_timer m t) b (comes_first (armed_timer m t) b) refl l (f b refl) in
    record { next = s.0; is = s.1; before = s.2.before_a }

more_before : (m : ℕ) (o : Option Timer) (xs : List Armed) (a : Armed) → ((b : Armed) → next_of xs ≡ Some b → b.timer.0 < 2 ^ 32) → m < 2 ^ 32 → IsNextBefore (next_of xs) a → IsNextBefore (next_of (slot_armed m o xs)) a
unfolding next_of
more_before m None xs a f l n = n
more_before m (Some t) xs a f l n =
    let s = sooner_of (armed_timer m t) n.next (comes_first (armed_timer m t) n.next) refl l (f n.next n.is) in
    let le = s.2.before_b in
    let le2 = n.before in
    record { next = s.0; is = ap (sooner (armed_timer m t)) n.is ∙ s.1; before = omega arith }

pub next_before : (m n i : ℕ) (slots : List (Option Timer)) (t : Timer) → slot_at slots i ≡ Some t → m + length slots ≤ 2 ^ 32 → n ≡ m + i → IsNextBefore (next_of (armed_from m slots)) (armed_timer n t)
unfolding next_of armed_from
next_before m n i [] t h l e = cc
next_before m n zero (o ∷ rest) t h l e =
    let small : m < 2 ^ 32 = omega arith in
    let short : (m + 1) + length rest ≤ 2 ^ 32 = omega arith in
    let same : m ≡ n = omega arith in
    let P : ℕ → Type 0 = λ k. IsNextBefore (next_of (slot_armed m o (armed_from (m + 1) rest))) (armed_timer k t) in
    subst P same (rw h (first_before m t rest (next_of (armed_from (m + 1) rest)) (λ b x. small_at (m + 1) rest b (next_at (m + 1) rest b x) short) small))
next_before m n (suc i) (o ∷ rest) t h l e =
    let small : m < 2 ^ 32 = omega arith in
    let short : (m + 1) + length rest ≤ 2 ^ 32 = omega arith in
    more_before m o (armed_from (m + 1) rest) (armed_timer n t) (λ b x. small_at (m + 1) rest b (next_at (m + 1) rest b x) short) small (next_before (m + 1) n i rest t h short (omega arith))

pub record IsNext (armed : List Armed) (due : Due) : Type 0 where
  pub next : Armed
  pub is : next_of armed ≡ Some next
  pub deadline : next.deadline ≡ due.deadline
  pub number : next.timer.0 ≡ due.timer.0

pub next_is : (slots : List (Option Timer)) (places : List ℕ) (heap : List Due) → IsIndex slots places heap → length slots ≤ 2 ^ 32 → 0 < length heap → IsNext (armed_from 0 slots) (due_at heap 0)
next_is slots places heap x small some =
    let root = due_at heap 0 in
    let a = x.matches.armed 0 some in
    let w = slot_within slots root.timer.0 a.timer a.at in
    let n = next_before 0 root.timer.0 root.timer.0 slots a.timer a.at (omega arith) (omega arith) in
    let r = next_at 0 slots n.next n.is in
    let wr = slot_within slots r.place r.timer r.at in
    let e = x.matches.there r.place r.timer r.at in
    let least : rank_at heap 0 ≤ rank_at heap e.place = root_least (rank_at heap) (length heap) e.place x.order e.within in
    let rank_is : rank_at heap e.place ≡ r.timer.deadline * 2 ^ 32 + r.place = ap rank e.here in
    let number : n.next.timer.0 ≡ 0 + r.place = ap (λ (z : Armed). z.timer.0) r.is in
    let deadline : n.next.deadline ≡ r.timer.deadline = ap (λ (z : Armed). z.deadline) r.is in
    let before : n.next.deadline * 2 ^ 32 + n.next.timer.0 ≤ a.timer.deadline * 2 ^ 32 + root.timer.0 = n.before in
    let same : a.timer.deadline ≡ root.deadline = a.same in
    record { next = n.next; is = n.is; deadline = omega arith; number = omega arith }

pub next_none : (slots : List (Option Timer)) (places : List ℕ) (heap : List Due) → IsIndex slots places heap → length heap ≡ 0 → next_of (armed_from 0 slots) ≡ None
unfolding next_of
next_none slots places heap x e = rw (nil_from_length (armed_from 0 slots) (x.count ∙ e)) refl
