-- The least of what many tests find is the first that any finds. So the front of a queue is the first that waits in it.
use Rattle.std.proofs.Common.{◌≡◌, ℕ, zero, suc, ◌+◌, ◌*◌, ◌<◌, List, [], ◌∷◌, length, map, Bool, true, false, ◌||◌, Option, Some, None, arith, refl, sym, ◌∙◌, ap, inl, inr}
use Rattle.std.specs.Prelude.{◌==◌}
use Rattle.std.specs.List.{filter, find, AllByRecursion}
use Rattle.std.specs.Option.{option_map, is_none}
use Rattle.std.proofs.lemmas.Bool.{cases_Bool, cases_eq, eq-eqb, ne_eqb, false≢true}
use Rattle.so_ids.specs.declared.DemandId.{DemandId}
use Rattle.so_ids.specs.declared.KeyId.{KeyId}
use Rattle.so_ids.specs.Ids.{is_earlier}
use Rattle.so_lists.specs.Lists.{each_below, is_empty}
use Rattle.so_lists.proofs.Filters.{each-weaker, each-filter, found}
use Rattle.so_lists.proofs.EachBelow.{get_or-each_below}
use Rattle.so_scene.specs.declared.parts.SceneParts.{SceneParts}
use Rattle.so_scene.specs.Lanes.{keys, key_of}
use Rattle.so_queue.specs.Queues.{QueueTable, keys_of, list_at, head_of, lesser, least_to, front_of_key, IsNextKey}
use Rattle.so_queue.proofs.OrderLaws.{earlier_itself, not_both}
use Rattle.so_queue.specs.Picks.{least_below}
use Rattle.so_scene.specs.Parts.{priority_of}
use Rattle.so_deliver.proofs.CommitLaws.{low}
use Rattle.so_history.specs.declared.entry.Demand.{Demand}
use Rattle.so_events.specs.Events.{place_of}
use Rattle.so_events.specs.Tied.{AreInOrder, id_of, is_at, ids_at, waits_in, waiting_in, IsTied}
use Rattle.so_events.proofs.ListLaws.{find_same_each}
use Rattle.so_events.proofs.NameOrder.{order-filter}
use Rattle.so_scene.proofs.LaneLaws.{key_in_range}

-- ---- the lesser of what two tests find

first_wins : (x : Demand) (o : Option Demand) → ((y : Demand) → o ≡ Some y → is_earlier y.id x.id ≡ false) → lesser (Some x.id) (option_map id_of o) ≡ Some x.id
first_wins x None later = refl
first_wins x (Some y) later = rw (later y refl) refl

second_wins : (x : Demand) (o : Option Demand) → ((y : Demand) → o ≡ Some y → is_earlier x.id y.id ≡ true) → lesser (option_map id_of o) (Some x.id) ≡ Some x.id
second_wins x None later = refl
second_wins x (Some y) later = rw (later y refl) refl

pub found_lesser : (p q : Demand → Bool) (ds : List Demand) → AreInOrder ds → lesser (option_map id_of (find p ds)) (option_map id_of (find q ds)) ≡ option_map id_of (find (λ x. p x || q x) ds)
found_lesser p q [] order = refl
found_lesser p q (x ∷ ds) order =
    elim (cases_Bool (p x)) [
      | inl t ↦
          rw t (first_wins x (find q (x ∷ ds)) (λ y is. (found (λ (z : Demand). is_earlier z.id x.id ≡ false) q (x ∷ ds) y (earlier_itself x.id, each-weaker (λ (z : Demand). is_earlier x.id z.id ≡ true) (λ (z : Demand). is_earlier z.id x.id ≡ false) (λ z e. not_both x.id z.id e) ds order.0) is).0))
      | inr f ↦
          elim (cases_Bool (q x)) [
            | inl t ↦ rw (f, t) (second_wins x (find p ds) (λ y is. (found (λ (z : Demand). is_earlier x.id z.id ≡ true) p ds y order.0 is).0))
            | inr o ↦ rw (f, o) (found_lesser p q ds order.1)
          ]
    ]

pub find_never : (ds : List Demand) → find (λ x. false) ds ≡ None
find_never [] = refl
find_never (x ∷ ds) = find_never ds

-- ---- the least of what many tests find

abbrev pub any_below : (ℕ → Bool) → ℕ → Bool
any_below f zero = false
any_below f (suc n) = any_below f n || f n

any_none : (f : ℕ → Bool) (n : ℕ) → ((k : ℕ) → k < n → f k ≡ false) → any_below f n ≡ false
any_none f zero none = refl
any_none f (suc n) none = rw (any_none f n (λ k l. none k (omega arith)), none n (omega arith)) refl

or_false : (b : Bool) → (b || false) ≡ b
or_false true = refl
or_false false = refl

-- at most one of them passes
pub any_at : (f : ℕ → Bool) (n k : ℕ) → k < n → ((j : ℕ) → j < n → (j ≡ k → ⊥) → f j ≡ false) → any_below f n ≡ f k
any_at f zero k l others = absurd (omega arith)
any_at f (suc n) k l others =
    elim (cases_eq k n) [
      | inl same ↦ rw (any_none f n (λ j m. others j (omega arith) (λ e. omega arith))) (ap f (sym same))
      | inr other ↦
          (let before : k < n = omega arith in
          let last : f n ≡ false = others n (omega arith) (λ e. omega arith) in
          rw (any_at f n k before (λ j m. others j (omega arith)), last) (or_false (f k)))
    ]

pub least_found : (f : ℕ → Option DemandId) (p : ℕ → Demand → Bool) (ds : List Demand) (n : ℕ) → AreInOrder ds → ((k : ℕ) → k < n → f k ≡ option_map id_of (find (p k) ds)) → least_below f n ≡ option_map id_of (find (λ x. any_below (λ k. p k x) n) ds)
unfolding least_below
least_found f p ds zero order each = rw (find_never ds) refl
least_found f p ds (suc n) order each = rw (least_found f p ds n order (λ k l. each k (omega arith)), each n (omega arith)) (found_lesser (λ x. any_below (λ k. p k x) n) (p n) ds order)

pub each_all : (P : Demand → Type 0) (ds : List Demand) → ((x : Demand) → P x) → AllByRecursion P ds
each_all P [] all = tt
each_all P (x ∷ ds) all = (all x, each_all P ds all)

-- ---- the front of a queue

least_to-below : (n i : ℕ) (lists : List (List DemandId)) → least_to n lists i ≡ least_below (λ l. head_of (list_at lists (i + l))) n
unfolding least_to least_below
least_to-below zero i lists = refl
least_to-below (suc n) i lists = rw (least_to-below n i lists) refl

pub head_found : (p : Demand → Bool) (ds : List Demand) → head_of (map id_of (filter p ds)) ≡ option_map id_of (find p ds)
head_found p [] = refl
head_found p (x ∷ ds) = elim (cases_Bool (p x)) [ inl t ↦ rw t refl | inr f ↦ rw f (head_found p ds) ]

abbrev pub is_on : SceneParts → ℕ → Demand → Bool
is_on s k x = (key_of s x.agent).0 == k

on_one : (s : SceneParts) (k : ℕ) (x : Demand) → any_below (λ l. is_at s (8 * k + l) x) 8 ≡ is_on s k x
on_one s k x =
    let level = (priority_of s x.agent).level in
    let few = low s x.agent in
    elim (cases_eq (key_of s x.agent).0 k) [
      | inl same ↦
          any_at (λ l. is_at s (8 * k + l) x) 8 level (omega (arith, few)) (λ j m apart. ne_eqb (place_of s x) (8 * k + j) (λ e. apart (omega arith)))
          ∙ (eq-eqb (place_of s x) (8 * k + level) (omega arith) ∙ sym (eq-eqb (key_of s x.agent).0 k same))
      | inr other ↦
          any_none (λ l. is_at s (8 * k + l) x) 8 (λ j m. ne_eqb (place_of s x) (8 * k + j) (λ e. other (omega (arith, few))))
          ∙ sym (ne_eqb (key_of s x.agent).0 k other)
    ]

pub front_is : (s : SceneParts) (ds : List Demand) (lists : List (List DemandId)) (k : ℕ) → AreInOrder ds → lists ≡ each_below (ids_at s ds) (8 * keys s) → k < keys s → front_of_key lists k ≡ option_map id_of (find (is_on s k) ds)
unfolding front_of_key
front_is s ds lists k order are within =
    least_to-below 8 (8 * k) lists
    ∙ (least_found (λ l. head_of (list_at lists (8 * k + l))) (λ l. is_at s (8 * k + l)) ds 8 order
    (λ l m. ap head_of (ap (λ ls. list_at ls (8 * k + l)) are ∙ get_or-each_below (ids_at s ds) (8 * keys s) (8 * k + l) [] (omega arith)) ∙ head_found (is_at s (8 * k + l)) ds)
    ∙ ap (option_map id_of) (find_same_each (λ x. any_below (λ l. is_at s (8 * k + l) x) 8) (is_on s k) ds (each_all (λ x. any_below (λ l. is_at s (8 * k + l) x) 8 ≡ is_on s k x) ds (λ x. on_one s k x))))

-- ---- no queue is ready exactly where nothing waits

on_itself : (s : SceneParts) (x : Demand) (ds : List Demand) → find (is_on s (key_of s x.agent).0) (x ∷ ds) ≡ Some x
on_itself s x ds = rw (eq-eqb (key_of s x.agent).0 (key_of s x.agent).0 refl) refl

none_waits : (s : SceneParts) (ds : List Demand) (q : QueueTable) (o : Option KeyId) → keys_of q ≡ keys s → ((k : ℕ) → k < keys s → front_of_key q.lists k ≡ option_map id_of (find (is_on s k) ds)) → AllByRecursion (λ (x : Demand). x.agent.0 < length s.agents) ds → IsNextKey q None o → is_none o ≡ is_empty ds
none_waits s [] q None size front known next = refl
none_waits s (x ∷ ds) q None size front known next =
    let key = key_of s x.agent in
    let within : key.0 < keys s = key_in_range s x.agent known.0 in
    let has : front_of_key q.lists key.0 ≡ Some x.id = front key.0 within ∙ ap (option_map id_of) (on_itself s x ds) in
    absurd (false≢true (sym (next key.0 x.id (omega arith) has)))
none_waits s [] q (Some k) size front known next =
    let w : k.0 < keys s = (let l = next.within in omega arith) in
    let none = sym next.waits ∙ front k.0 w in cc
none_waits s (x ∷ ds) q (Some k) size front known next = refl

pub ready_is : (s : SceneParts) (all : List Demand) (q : QueueTable) (cap : ℕ) (o : Option KeyId) → IsTied s all (waiting_in s q.lists all) q cap → IsNextKey q None o → is_none o ≡ is_empty (waiting_in s q.lists all)
ready_is s all q cap o t next =
    let W = waiting_in s q.lists all in
    let order : AreInOrder W = order-filter (waits_in s q.lists) all t.order in
    none_waits s W q o t.safe (λ k l. front_is s W q.lists k order t.lists l) (each-filter (λ (x : Demand). x.agent.0 < length s.agents) (waits_in s q.lists) all t.agents) next
