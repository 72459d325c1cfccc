-- The queues after a demand more or less.
use Rattle.std.proofs.Common.{◌≡◌, ℕ, zero, suc, ◌+◌, ◌*◌, ◌<◌, ◌≤◌, List, [], ◌∷◌, ◌++◌, length, map, Bool, true, false, ◌||◌, ◌&&◌, not, Some, arith, refl, sym, ◌∙◌, ap, subst, inl, inr}
use Rattle.std.specs.Prelude.{slice_set, slice_index_or, replicate}
use Rattle.std.specs.List.{filter, find, AllByRecursion}
use Rattle.std.proofs.lemmas.Bool.{cases_Bool, cases_lt, eq-eqb, ne_eqb, eqb-true}
use Rattle.std.proofs.lemmas.List.{append-nil, length-append, map-append, length-replicate, get_or_past}
use Rattle.std.proofs.lemmas.List.Elements.{filter-append}
use Rattle.so_ids.specs.declared.DemandId.{DemandId}
use Rattle.so_ids.specs.Ids.{same_demand, is_earlier}
use Rattle.so_lists.specs.Lists.{each_below}
use Rattle.so_lists.proofs.Filters.{each-append, each-weaker, each-filter, found, filter-filter, filter-short, ap2_append}
use Rattle.so_lists.proofs.EachBelow.{get_or-each_below, length-each_below, each_below-set, each_below-replicate}
use Rattle.so_scene.specs.declared.parts.SceneParts.{SceneParts}
use Rattle.so_scene.specs.Lanes.{keys, key_of}
use Rattle.so_queue.specs.Queues.{QueueTable, no_demands, list_at, head_of, behind_head, IsAmong, after_take}
use Rattle.so_queue.proofs.OrderLaws.{earlier_there}
use Rattle.so_scene.specs.Parts.{priority_of}
use Rattle.so_deliver.specs.Commit.{after_demand}
use Rattle.so_history.specs.declared.entry.Demand.{Demand}
use Rattle.so_history.specs.Demands.{Asked, demands_from, without}
use Rattle.so_history.proofs.NameLaws.{itself, filter-without}
use Rattle.so_events.specs.Events.{place_of, is_beside}
use Rattle.so_events.specs.Tied.{AreInOrder, id_of, is_at, ids_at, waits_in, waiting_in, IsTied}
use Rattle.so_events.proofs.ListLaws.{filter_same_each, or-right, or-nothing}
use Rattle.so_events.proofs.NameOrder.{sorted_of, order-filter, order-last, other_way}
use Rattle.so_events.proofs.HeldLaws.{place_known, held_is}

-- ---- nothing waits

none_counted : (n k : ℕ) → let none : ℕ = 0 in slice_index_or (replicate n none) k none ≡ none
none_counted zero k = refl
none_counted (suc n) zero = refl
none_counted (suc n) (suc k) = none_counted n k

nothing_there : (s : SceneParts) (q : QueueTable) (cap : ℕ) → q ≡ no_demands (keys s) cap → IsTied s [] [] q cap
nothing_there s q cap are = rw are (record {
  lists = sym (each_below-replicate (ids_at s []) (8 * keys s) [] (λ i. refl));
  safe = length-replicate (keys s) 0;
  overlap = λ k off. none_counted (keys s) k;
  exclusive = length-replicate (keys s) 0;
  order = tt;
  agents = tt;
  room = omega arith;
  few = omega arith;
})

pub tied_begins : (s : SceneParts) (q : QueueTable) (cap : ℕ) → q ≡ no_demands (keys s) cap → IsTied s [] (waiting_in s q.lists []) q cap
tied_begins s q cap are = nothing_there s q cap are

-- ---- a demand is queued

ids_at-last : (s : SceneParts) (ds : List Demand) (d : Demand) (n : ℕ) → ids_at s (ds ++ d ∷ []) n ≡ ids_at s ds n ++ map id_of (filter (is_at s n) (d ∷ []))
ids_at-last s ds d n = ap (map id_of) (filter-append (is_at s n) ds (d ∷ [])) ∙ map-append id_of (filter (is_at s n) ds) (filter (is_at s n) (d ∷ []))

ids_at-here : (s : SceneParts) (ds : List Demand) (d : Demand) → ids_at s (ds ++ d ∷ []) (place_of s d) ≡ ids_at s ds (place_of s d) ++ d.id ∷ []
ids_at-here s ds d =
    let here : is_at s (place_of s d) d ≡ true = eq-eqb (place_of s d) (place_of s d) refl in
    let one : map id_of (filter (is_at s (place_of s d)) (d ∷ [])) ≡ d.id ∷ [] = rw here refl in
    ids_at-last s ds d (place_of s d) ∙ ap (λ l. ids_at s ds (place_of s d) ++ l) one

ids_at-other : (s : SceneParts) (ds : List Demand) (d : Demand) (n : ℕ) → (n ≡ place_of s d → ⊥) → ids_at s (ds ++ d ∷ []) n ≡ ids_at s ds n
ids_at-other s ds d n apart =
    let there : is_at s n d ≡ false = ne_eqb (place_of s d) n (λ same. apart (sym same)) in
    let none : map id_of (filter (is_at s n) (d ∷ [])) ≡ [] = rw there refl in
    ids_at-last s ds d n ∙ (ap (λ l. ids_at s ds n ++ l) none ∙ append-nil (ids_at s ds n))

pushed_lists : (s : SceneParts) (ds : List Demand) (d : Demand) (lists : List (List DemandId)) → d.agent.0 < length s.agents → lists ≡ each_below (ids_at s ds) (8 * keys s) →
    slice_set lists (place_of s d) (list_at lists (place_of s d) ++ d.id ∷ []) ≡ each_below (ids_at s (ds ++ d ∷ [])) (8 * keys s)
pushed_lists s ds d lists known are =
    let within = place_known s d known in
    let was : list_at (each_below (ids_at s ds) (8 * keys s)) (place_of s d) ≡ ids_at s ds (place_of s d) = get_or-each_below (ids_at s ds) (8 * keys s) (place_of s d) [] within in
    rw (are, was) (sym (each_below-set (ids_at s ds) (ids_at s (ds ++ d ∷ [])) (8 * keys s) (place_of s d) (ids_at s ds (place_of s d) ++ d.id ∷ []) within (ids_at-here s ds d) (λ j l apart. ids_at-other s ds d j apart)))

waiting_pushed : (s : SceneParts) (all : List Demand) (d : Demand) (lists new : List (List DemandId)) → AreInOrder all → AllByRecursion (λ x. x.agent.0 < length s.agents) all → d.agent.0 < length s.agents → AllByRecursion (λ x. is_earlier x.id d.id ≡ true) all →
    new ≡ each_below (ids_at s (waiting_in s lists all ++ d ∷ [])) (8 * keys s) → waiting_in s new (all ++ d ∷ []) ≡ waiting_in s lists all ++ d ∷ []
waiting_pushed s all d lists new order known its last are =
    let p : Demand → Bool = λ x. waits_in s lists x || same_demand d.id x.id in
    let itself : p d ≡ true = ap (λ b. waits_in s lists d || b) (itself d.id) ∙ or-right (waits_in s lists d) in
    let one : filter p (d ∷ []) ≡ d ∷ [] = rw itself refl in
    let old : filter p all ≡ waiting_in s lists all = filter_same_each p (waits_in s lists) all (each-weaker (λ (x : Demand). is_earlier x.id d.id ≡ true) (λ (x : Demand). p x ≡ waits_in s lists x) (λ x e. ap (λ b. waits_in s lists x || b) (other_way x.id d.id e) ∙ or-nothing (waits_in s lists x)) all last) in
    let is : filter p (all ++ d ∷ []) ≡ waiting_in s lists all ++ d ∷ [] = filter-append p all (d ∷ []) ∙ ap2_append old one in
    held_is s p (all ++ d ∷ []) new (order-last all d order last) (each-append (λ (x : Demand). x.agent.0 < length s.agents) all (d ∷ []) known (its, tt)) (are ∙ ap (λ ds. each_below (ids_at s ds) (8 * keys s)) (sym is)) ∙ is

-- demands more, and the queues with them
pub record Pushed (s : SceneParts) (all ds : List Demand) (old new : QueueTable) (cap : ℕ) : Type 0 where
  pub waiting : waiting_in s new.lists (all ++ ds) ≡ waiting_in s old.lists all ++ ds
  pub tied : IsTied s (all ++ ds) (waiting_in s old.lists all ++ ds) new cap

pub pushed : (s : SceneParts) (all : List Demand) (q : QueueTable) (cap : ℕ) (d : Demand) → IsTied s all (waiting_in s q.lists all) q cap → d.agent.0 < length s.agents → length all < cap → AllByRecursion (λ x. is_earlier x.id d.id ≡ true) all →
    Pushed s all (d ∷ []) q (after_demand s d.agent d.id q) cap
pushed s all q cap d t its few last =
    let lists = pushed_lists s (waiting_in s q.lists all) d q.lists its t.lists in
    record {
      waiting = waiting_pushed s all d q.lists (slice_set q.lists (place_of s d) (list_at q.lists (place_of s d) ++ d.id ∷ [])) t.order t.agents its last lists;
      tied = record {
        lists = lists;
        safe = t.safe;
        overlap = t.overlap;
        exclusive = t.exclusive;
        order = order-last all d t.order last;
        agents = each-append (λ (x : Demand). x.agent.0 < length s.agents) all (d ∷ []) t.agents (its, tt);
        room = omega (arith, t.room, length-append (waiting_in s q.lists all) (d ∷ []), filter-short (waits_in s q.lists) all);
        few = omega (arith, length-append all (d ∷ []));
      };
    }

pub room_to_push : (s : SceneParts) (all : List Demand) (q : QueueTable) (cap n : ℕ) → IsTied s all (waiting_in s q.lists all) q cap → length all + n ≤ cap → n ≤ q.room
room_to_push s all q cap n t few = omega (arith, t.room, filter-short (waits_in s q.lists) all)

-- what is among the queues is a demand that was queued
among_ids : (P : DemandId → Type 0) (ds : List Demand) (e : DemandId) → AllByRecursion (λ (x : Demand). P x.id) ds → IsAmong (map id_of ds) e → P e
among_ids P [] e all among = absurd among
among_ids P (d ∷ ds) e all among = elim among [ inl here ↦ subst P here all.0 | inr later ↦ among_ids P ds e all.1 later ]

pub among_queued : (P : DemandId → Type 0) (s : SceneParts) (all : List Demand) (q : QueueTable) (cap : ℕ) → IsTied s all (waiting_in s q.lists all) q cap → AllByRecursion (λ (x : Demand). P x.id) all → (n : ℕ) (e : DemandId) → IsAmong (list_at q.lists n) e → P e
among_queued P s all q cap t each n e among =
    let W : List DemandId → Type 0 = λ l. IsAmong l e in
    elim (cases_lt n (8 * keys s)) [
      | inl within ↦
          (let list : list_at q.lists n ≡ ids_at s (waiting_in s q.lists all) n = ap (λ ls. list_at ls n) t.lists ∙ get_or-each_below (ids_at s (waiting_in s q.lists all)) (8 * keys s) n [] within in
          among_ids P (filter (is_at s n) (waiting_in s q.lists all)) e (each-filter (λ (x : Demand). P x.id) (is_at s n) (waiting_in s q.lists all) (each-filter (λ (x : Demand). P x.id) (waits_in s q.lists) all each)) (subst W list among))
      | inr past ↦
          (let long : length q.lists ≤ n = omega (arith, ap length t.lists, length-each_below (ids_at s (waiting_in s q.lists all)) (8 * keys s)) in
          absurd (subst W (get_or_past q.lists n [] long) among))
    ]

-- the demands of a place before a number
pub numbers_before : (place k n : ℕ) (asked : List Asked) → k + length asked ≤ n → AllByRecursion (λ (d : Demand). is_earlier d.id (record { place = record { 0 = place }; k = n }) ≡ true) (demands_from place k asked)
numbers_before place k n [] few = tt
numbers_before place k n (a ∷ asked) few = (earlier_there (record { place = record { 0 = place }; k = k }) (record { place = record { 0 = place }; k = n }) refl (omega (arith, few)), numbers_before place (k + 1) n asked (omega (arith, few)))

-- ---- a demand is taken

-- it is the first at its place
ids_taken_here : (s : SceneParts) (n : ℕ) (d : Demand) (ds : List Demand) → AreInOrder ds → find (is_at s n) ds ≡ Some d → ids_at s (without d.id ds) n ≡ behind_head (ids_at s ds n)
ids_taken_here s n d [] order is = cc
ids_taken_here s n d (x ∷ ds) order is =
    elim (cases_Bool (is_at s n x)) [
      | inl t ↦ (let some = (rw t at is) in let same : x ≡ d = cc in rw (t, ← same, itself x.id) refl)
      | inr f ↦
          (let some = (rw f at is) in
          let later = (found (λ (y : Demand). is_earlier x.id y.id ≡ true) (is_at s n) ds d order.0 some).0 in
          rw (other_way x.id d.id later, f) (ids_taken_here s n d ds order.1 some))
    ]

ids_taken_other : (s : SceneParts) (n m : ℕ) (d : Demand) (ds : List Demand) → (m ≡ n → ⊥) → AreInOrder ds → find (is_at s n) ds ≡ Some d → ids_at s (without d.id ds) m ≡ ids_at s ds m
ids_taken_other s n m d [] apart order is = cc
ids_taken_other s n m d (x ∷ ds) apart order is =
    elim (cases_Bool (is_at s n x)) [
      | inl t ↦
          (let some = (rw t at is) in
          let same : x ≡ d = cc in
          let at : place_of s x ≡ n = eqb-true (place_of s x) n t in
          let off : is_at s m x ≡ false = ne_eqb (place_of s x) m (λ e. apart (sym e ∙ at)) in
          rw (← same, itself x.id, off) refl)
      | inr f ↦
          (let some = (rw f at is) in
          let later = (found (λ (y : Demand). is_earlier x.id y.id ≡ true) (is_at s n) ds d order.0 some).0 in
          let rest = ids_taken_other s n m d ds apart order.1 some in
          rw (other_way x.id d.id later)
          (elim (cases_Bool (is_at s m x)) [
            | inl t ↦ rw t (ap (λ l. x.id ∷ l) rest)
            | inr o ↦ rw o rest
          ]))
    ]

pub length-taken : (s : SceneParts) (n : ℕ) (d : Demand) (ds : List Demand) → AreInOrder ds → find (is_at s n) ds ≡ Some d → length (without d.id ds) + 1 ≡ length ds
length-taken s n d [] order is = cc
length-taken s n d (x ∷ ds) order is =
    elim (cases_Bool (is_at s n x)) [
      | inl t ↦ (let some = (rw t at is) in let same : x ≡ d = cc in rw (← same, itself x.id) (omega arith))
      | inr f ↦
          (let some = (rw f at is) in
          let later = (found (λ (y : Demand). is_earlier x.id y.id ≡ true) (is_at s n) ds d order.0 some).0 in
          rw (other_way x.id d.id later) (omega (arith, length-taken s n d ds order.1 some)))
    ]

pub record Taken (s : SceneParts) (all : List Demand) (d : Demand) (old new : QueueTable) (cap : ℕ) : Type 0 where
  pub waiting : waiting_in s new.lists all ≡ without d.id (waiting_in s old.lists all)
  pub tied : IsTied s all (without d.id (waiting_in s old.lists all)) new cap

pub taken : (s : SceneParts) (all : List Demand) (q : QueueTable) (cap : ℕ) (d : Demand) → IsTied s all (waiting_in s q.lists all) q cap → d.agent.0 < length s.agents → find (is_beside s d) (waiting_in s q.lists all) ≡ Some d →
    Taken s all d q (after_take (key_of s d.agent) (priority_of s d.agent) q) cap
taken s all q cap d t its is =
    let n = place_of s d in
    let N = 8 * keys s in
    let W = waiting_in s q.lists all in
    let order : AreInOrder W = order-filter (waits_in s q.lists) all t.order in
    let within = place_known s d its in
    let list : list_at q.lists n ≡ ids_at s W n = ap (λ ls. list_at ls n) t.lists ∙ get_or-each_below (ids_at s W) N n [] within in
    let lists : slice_set q.lists n (behind_head (list_at q.lists n)) ≡ each_below (ids_at s (without d.id W)) N =
    ap (λ l. slice_set q.lists n (behind_head l)) list ∙ (ap (λ ls. slice_set ls n (behind_head (ids_at s W n))) t.lists
    ∙ sym (each_below-set (ids_at s W) (ids_at s (without d.id W)) N n (behind_head (ids_at s W n)) within (ids_taken_here s n d W order is) (λ j l apart. ids_taken_other s n j d W apart order is))) in
    let p : Demand → Bool = λ x. waits_in s q.lists x && not (same_demand d.id x.id) in
    let rest : filter p all ≡ without d.id W = sym (filter-filter (λ x. not (same_demand d.id x.id)) (waits_in s q.lists) all) ∙ filter-without d.id W (sorted_of W order) in
    record {
      waiting = held_is s p all (slice_set q.lists n (behind_head (list_at q.lists n))) t.order t.agents (lists ∙ ap (λ ds. each_below (ids_at s ds) N) (sym rest)) ∙ rest;
      tied = record {
        lists = lists;
        safe = t.safe;
        overlap = t.overlap;
        exclusive = t.exclusive;
        order = t.order;
        agents = t.agents;
        room = omega (arith, t.room, length-taken s n d W order is);
        few = t.few;
      };
    }

-- it is the head of its queue
head_found : (p : Demand → Bool) (ds : List Demand) (d : Demand) → find p ds ≡ Some d → head_of (map id_of (filter p ds)) ≡ Some d.id
head_found p [] d is = cc
head_found p (x ∷ ds) d is =
    elim (cases_Bool (p x)) [
      | inl t ↦ (let some = (rw t at is) in let same : x ≡ d = cc in rw (t, same) refl)
      | inr f ↦ (let some = (rw f at is) in rw f (head_found p ds d some))
    ]

pub taken_head : (s : SceneParts) (all : List Demand) (q : QueueTable) (cap : ℕ) (d : Demand) → IsTied s all (waiting_in s q.lists all) q cap → d.agent.0 < length s.agents → find (is_beside s d) (waiting_in s q.lists all) ≡ Some d → head_of (list_at q.lists (place_of s d)) ≡ Some d.id
taken_head s all q cap d t its is =
    ap head_of (ap (λ ls. list_at ls (place_of s d)) t.lists ∙ get_or-each_below (ids_at s (waiting_in s q.lists all)) (8 * keys s) (place_of s d) [] (place_known s d its))
    ∙ head_found (is_at s (place_of s d)) (waiting_in s q.lists all) d is

pub waiting_known : (s : SceneParts) (all : List Demand) (q : QueueTable) (cap : ℕ) (p : Demand → Bool) (d : Demand) → IsTied s all (waiting_in s q.lists all) q cap → find p (waiting_in s q.lists all) ≡ Some d → d.agent.0 < length s.agents
waiting_known s all q cap p d t is = (found (λ (x : Demand). x.agent.0 < length s.agents) p (waiting_in s q.lists all) d (each-filter (λ (x : Demand). x.agent.0 < length s.agents) (waits_in s q.lists) all t.agents) is).0
