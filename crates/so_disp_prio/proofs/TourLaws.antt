-- A tour from front to front, through all queues that have a demand.
use Rattle.std.proofs.Common.{◌≡◌, ℕ, true, false, Option, Some, None, refl, sym, ◌∙◌, ap, inl, inr}
use Rattle.std.specs.Prelude.{if◌then◌else◌}
use Rattle.std.proofs.lemmas.Bool.{cases_Bool, false≢true}
use Rattle.so_ids.specs.declared.DemandId.{DemandId}
use Rattle.so_ids.specs.declared.KeyId.{KeyId}
use Rattle.so_ids.specs.Ids.{is_earlier}
use Rattle.so_queue.specs.Queues.{QueueTable, keys_of, front_of_key, lesser, is_behind, IsNextKey}
use Rattle.so_queue.specs.Picks.{least_below}
use Rattle.so_queue.proofs.OrderLaws.{earlier_itself}
use Rattle.so_queue.proofs.LeastLaws.{least_none, least_same, least_more}
use Rattle.so_queue.proofs.WalkLaws.{behind_trans}

-- what f gives of the queues whose fronts the tour has passed
abbrev pub passed_by : Option DemandId → Option DemandId → Option DemandId → Option DemandId
passed_by after None found = None
passed_by after (Some d) found = if is_behind after d then None else found

abbrev pub passed : QueueTable → (ℕ → Option DemandId) → Option DemandId → ℕ → Option DemandId
passed q f after j = passed_by after (front_of_key q.lists j) (f j)

-- and the best so far is the least of them
pub record IsTour (q : QueueTable) (f : ℕ → Option DemandId) (at : Option KeyId) (best : Option DemandId) : Type 0 where
  pub after : Option DemandId
  pub next : IsNextKey q after at
  pub least : best ≡ least_below (passed q f after) (keys_of q)

none_passed : (front found : Option DemandId) → passed_by None front found ≡ None
none_passed None found = refl
none_passed (Some d) found = refl

pub tour_begins : (q : QueueTable) (f : ℕ → Option DemandId) (at : Option KeyId) → IsNextKey q None at → IsTour q f at None
tour_begins q f at next = record {
  after = None;
  next = next;
  least = sym (least_none (passed q f None) (keys_of q) (λ k l. none_passed (front_of_key q.lists k) (f k)));
}

-- the front that it comes to is passed now, and no other
passed_before : (after front found : Option DemandId) (d : DemandId) → front ≡ Some d → is_behind after d ≡ true → passed_by after front found ≡ None
passed_before after None found d is h = refl
passed_before after (Some e) found d is h = let same : e ≡ d = cc in rw (same, h) refl

passed_now : (front found : Option DemandId) (d : DemandId) → front ≡ Some d → passed_by front front found ≡ found
passed_now None found d is = cc
passed_now (Some e) found d is = rw (earlier_itself e) refl

same_passed : (after front found : Option DemandId) (d : DemandId) → is_behind after d ≡ true → ((e : DemandId) → front ≡ Some e → is_behind after e ≡ true → is_earlier d e ≡ true) →
    passed_by (Some d) front found ≡ passed_by after front found
same_passed after None found d behind first = refl
same_passed after (Some e) found d behind first =
    elim (cases_Bool (is_behind after e)) [
      | inl t ↦ rw (t, first e refl t) refl
      | inr o ↦
          elim (cases_Bool (is_earlier d e)) [
            | inl u ↦ absurd (false≢true (sym o ∙ behind_trans after d e behind u))
            | inr p ↦ rw (o, p) refl
          ]
    ]

pub tour_goes : (q : QueueTable) (f : ℕ → Option DemandId) (k : KeyId) (next : Option KeyId) (best found : Option DemandId) → IsTour q f (Some k) best → found ≡ f k.0 → IsNextKey q (front_of_key q.lists k.0) next → IsTour q f next (lesser best found)
tour_goes q f k next best found w is goes =
    let d = w.next.front in
    let one = least_more (passed q f w.after) (passed q f (Some d)) (keys_of q) k.0 w.next.within (passed_before w.after (front_of_key q.lists k.0) (f k.0) d w.next.waits w.next.behind)
    (λ j l apart. same_passed w.after (front_of_key q.lists j) (f j) d w.next.behind (λ e waits behind. w.next.least j e l apart waits behind)) in
    let here : passed q f (Some d) k.0 ≡ f k.0 = ap (λ (x : Option DemandId). passed_by x (front_of_key q.lists k.0) (f k.0)) (sym w.next.waits) ∙ passed_now (front_of_key q.lists k.0) (f k.0) d w.next.waits in
    record {
      after = front_of_key q.lists k.0;
      next = goes;
      least = rw (is, w.least) (sym (ap (λ (x : Option DemandId). least_below (passed q f x) (keys_of q)) w.next.waits ∙ (one ∙ ap (lesser (least_below (passed q f w.after) (keys_of q))) here)));
    }

-- where the tour is over, it has passed all
all_passed : (after front found : Option DemandId) → (front ≡ None → found ≡ None) → ((e : DemandId) → front ≡ Some e → is_behind after e ≡ false) → passed_by after front found ≡ found
all_passed after None found empty over = sym (empty refl)
all_passed after (Some e) found empty over = rw (over e refl) refl

pub tour_over : (q : QueueTable) (f : ℕ → Option DemandId) (n : ℕ) (best : Option DemandId) → keys_of q ≡ n → ((j : ℕ) → front_of_key q.lists j ≡ None → f j ≡ None) → IsTour q f None best → best ≡ least_below f n
tour_over q f n best size empty w =
    w.least
    ∙ (least_same (passed q f w.after) f (keys_of q) (λ j l. all_passed w.after (front_of_key q.lists j) (f j) (empty j) (λ e waits. w.next j e l waits))
    ∙ ap (least_below f) size)
