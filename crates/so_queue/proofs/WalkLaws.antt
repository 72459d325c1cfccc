-- A walk from front to front, which ends at the first queue from which a demand may be taken.
use Rattle.std.proofs.Common.{◌≡◌, ℕ, zero, suc, ◌+◌, ◌<◌, ◌≤◌, true, false, Option, Some, None, arith, refl, sym, ◌∙◌, ap, inl, inr, cond}
use Rattle.std.proofs.lemmas.Bool.{cases_eq, cases_Bool, false≢true}
use Rattle.so_ids.specs.declared.DemandId.{DemandId}
use Rattle.so_ids.specs.declared.KeyId.{KeyId}
use Rattle.so_ids.specs.Ids.{is_earlier}
use Rattle.so_queue.specs.Queues.{QueueTable, keys_of, front_of_key, is_behind, IsNextKey}
use Rattle.so_queue.specs.Picks.{least_below}
use Rattle.so_queue.proofs.OrderLaws.{earlier_trans, earlier_itself}
use Rattle.so_queue.proofs.LeastLaws.{least_none, least_some}

-- ---- how far the walk may go: the queues whose fronts are behind a demand

abbrev pub one_behind : Option DemandId → Option DemandId → ℕ
one_behind after None = 0
one_behind after (Some d) = cond (is_behind after d) 1 0

abbrev pub behind_below : QueueTable → Option DemandId → ℕ → ℕ
behind_below q after zero = 0
behind_below q after (suc n) = behind_below q after n + one_behind after (front_of_key q.lists n)

abbrev pub left : QueueTable → Option KeyId → ℕ
left q None = 0
left q (Some k) = suc (behind_below q (front_of_key q.lists k.0) (keys_of q))

pub behind_trans : (after : Option DemandId) (f d : DemandId) → is_behind after f ≡ true → is_earlier f d ≡ true → is_behind after d ≡ true
behind_trans None f d h g = refl
behind_trans (Some a) f d h g = earlier_trans a f d h g

fewer_here : (after front : Option DemandId) (f : DemandId) → is_behind after f ≡ true → one_behind (Some f) front ≤ one_behind after front
fewer_here after None f h = omega arith
fewer_here after (Some d) f h =
    elim (cases_Bool (is_earlier f d)) [
      | inl t ↦ rw (t, behind_trans after f d h t) (omega arith)
      | inr o ↦ rw o (omega arith)
    ]

fewer_below : (q : QueueTable) (after : Option DemandId) (f : DemandId) (n : ℕ) → is_behind after f ≡ true → behind_below q (Some f) n ≤ behind_below q after n
fewer_below q after f zero h = omega arith
fewer_below q after f (suc n) h = omega (arith, fewer_below q after f n h, fewer_here after (front_of_key q.lists n) f h)

less_here : (after front : Option DemandId) (f : DemandId) → front ≡ Some f → is_behind after f ≡ true → one_behind (Some f) front < one_behind after front
less_here after None f e h = cc
less_here after (Some d) f e h = let same : d ≡ f = cc in rw (same, earlier_itself f, h) (omega arith)

less_below : (q : QueueTable) (after : Option DemandId) (f : DemandId) (k n : ℕ) → k < n → front_of_key q.lists k ≡ Some f → is_behind after f ≡ true → behind_below q (Some f) n < behind_below q after n
less_below q after f k zero l e h = absurd (omega arith)
less_below q after f k (suc n) l e h =
    elim (cases_eq k n) [
      | inl same ↦ omega (arith, fewer_below q after f n h, less_here after (front_of_key q.lists n) f (ap (λ x. front_of_key q.lists x) (sym same) ∙ e) h)
      | inr other ↦ (let before : k < n = omega arith in omega (arith, less_below q after f k n before e h, fewer_here after (front_of_key q.lists n) f h))
    ]

pub left_less : (q : QueueTable) (k : KeyId) (front : DemandId) (next : Option KeyId) → front_of_key q.lists k.0 ≡ Some front → IsNextKey q (front_of_key q.lists k.0) next → left q next < left q (Some k)
left_less q k front None waits next = omega arith
left_less q k front (Some m) waits next = rw next.waits (let l = less_below q (front_of_key q.lists k.0) next.front m.0 (keys_of q) next.within next.waits next.behind in omega arith)

-- ---- the walk: of the queues whose fronts lie before, none may be taken

-- what f gives of a queue is its front
abbrev pub GivesFronts : QueueTable → (ℕ → Option DemandId) → Type 0
GivesFronts q f = (j : ℕ) (d : DemandId) → f j ≡ Some d → front_of_key q.lists j ≡ Some d

pub record IsWalk (q : QueueTable) (f : ℕ → Option DemandId) (at : Option KeyId) : Type 0 where
  pub after : Option DemandId
  pub next : IsNextKey q after at
  pub closed : (j : ℕ) (d : DemandId) → j < keys_of q → front_of_key q.lists j ≡ Some d → is_behind after d ≡ false → f j ≡ None

pub walk_begins : (q : QueueTable) (f : ℕ → Option DemandId) (at : Option KeyId) → IsNextKey q None at → IsWalk q f at
walk_begins q f at next = record { after = None; next = next; closed = λ j d l is off. absurd (false≢true (sym off)) }

pub walk_goes : (q : QueueTable) (f : ℕ → Option DemandId) (k : KeyId) (next : Option KeyId) → IsWalk q f (Some k) → f k.0 ≡ None → IsNextKey q (front_of_key q.lists k.0) next → IsWalk q f next
walk_goes q f k next w shut goes = record {
  after = front_of_key q.lists k.0;
  next = goes;
  closed = λ j d l is off.
      elim (cases_eq j k.0) [
        | inl same ↦ ap f same ∙ shut
        | inr other ↦
            elim (cases_Bool (is_behind w.after d)) [
              | inl t ↦ absurd (let e = w.next.least j d l other is t in false≢true (sym (rw w.next.waits at off) ∙ e))
              | inr o ↦ w.closed j d l is o
            ]
      ];
}

-- where the key of the walk may be taken from, its front is the least
pub walk_found : (q : QueueTable) (f : ℕ → Option DemandId) (n : ℕ) (k : KeyId) (front : Option DemandId) → keys_of q ≡ n → GivesFronts q f → IsWalk q f (Some k) → f k.0 ≡ front_of_key q.lists k.0 → front ≡ front_of_key q.lists k.0 → front ≡ least_below f n
walk_found q f n k front size gives w here is =
    let within : k.0 < n = (let l = w.next.within in omega arith) in
    is ∙ (w.next.waits ∙ sym (least_some f n k.0 w.next.front within (here ∙ w.next.waits) (λ j e l apart has.
    let waits = gives j e has in
    let m : j < keys_of q = omega arith in
    elim (cases_Bool (is_behind w.after e)) [
      | inl t ↦ w.next.least j e m apart waits t
      | inr off ↦ (let shut = w.closed j e m waits off in cc)
    ])))

some_front : (o : Option DemandId) → ((d : DemandId) → o ≡ Some d → ⊥) → o ≡ None
some_front None never = refl
some_front (Some d) never = absurd (never d refl)

-- and where the walk is over, there is none
pub walk_over : (q : QueueTable) (f : ℕ → Option DemandId) (n : ℕ) → keys_of q ≡ n → GivesFronts q f → IsWalk q f None → None ≡ least_below f n
walk_over q f n size gives w =
    sym (least_none f n (λ j l. some_front (f j) (λ e has.
    let waits = gives j e has in
    let m : j < keys_of q = omega arith in
    let shut = w.closed j e m waits (w.next j e m waits) in cc)))
