-- Which demands stand in the queues that hold some of them.
use Rattle.std.proofs.Common.{◌≡◌, ◌*◌, ◌<◌, List, [], ◌∷◌, length, map, Bool, true, false, ◌&&◌, cond, arith, refl, ◌∙◌, ap}
use Rattle.std.specs.List.{filter, AllByRecursion}
use Rattle.std.proofs.lemmas.Bool.{eq-eqb}
use Rattle.so_ids.specs.declared.DemandId.{DemandId}
use Rattle.so_ids.specs.Ids.{same_demand, is_earlier}
use Rattle.so_lists.specs.Lists.{each_below}
use Rattle.so_lists.proofs.Filters.{each-weaker, each-filter, filter-filter, both_each}
use Rattle.so_lists.proofs.EachBelow.{get_or-each_below}
use Rattle.so_scene.specs.declared.parts.SceneParts.{SceneParts}
use Rattle.so_scene.specs.Lanes.{keys}
use Rattle.so_scene.proofs.LaneLaws.{key_in_range}
use Rattle.so_queue.specs.Queues.{list_at}
use Rattle.so_deliver.proofs.CommitLaws.{low}
use Rattle.so_history.specs.declared.entry.Demand.{Demand}
use Rattle.so_history.proofs.NameLaws.{itself}
use Rattle.so_events.specs.Events.{place_of}
use Rattle.so_events.specs.Tied.{AreInOrder, id_of, is_at, ids_at, has_id, waits_in, waiting_in}
use Rattle.so_events.proofs.ListLaws.{filter_same_each, each_diagonal, and-right}
use Rattle.so_events.proofs.NameOrder.{other_way, this_way}

pub place_known : (s : SceneParts) (d : Demand) → d.agent.0 < length s.agents → place_of s d < 8 * keys s
place_known s d known = omega (arith, key_in_range s d.agent known, low s d.agent)

has_none : (ds : List Demand) (d : DemandId) → AllByRecursion (λ x. same_demand x.id d ≡ false) ds → has_id (map id_of ds) d ≡ false
has_none [] d all = refl
has_none (x ∷ ds) d all = rw all.0 (has_none ds d all.1)

first_held : (b : Bool) (y : Demand) (zs : List Demand) → AllByRecursion (λ x. same_demand x.id y.id ≡ false) zs → has_id (map id_of (cond b (y ∷ zs) zs)) y.id ≡ b
first_held true y zs none = rw (itself y.id) refl
first_held false y zs none = has_none zs y.id none

other_held : (b v : Bool) (y x : Demand) (zs : List Demand) → same_demand y.id x.id ≡ false → has_id (map id_of zs) x.id ≡ v → has_id (map id_of (cond b (y ∷ zs) zs)) x.id ≡ v
other_held true v y x zs differs has = rw differs has
other_held false v y x zs differs has = has

pub held_each : (r : Demand → Bool) (ds : List Demand) → AreInOrder ds → AllByRecursion (λ x. has_id (map id_of (filter r ds)) x.id ≡ r x) ds
held_each r [] order = tt
held_each r (y ∷ ds) order = (
  first_held (r y) y (filter r ds) (each-filter (λ (x : Demand). same_demand x.id y.id ≡ false) r ds (each-weaker (λ (x : Demand). is_earlier y.id x.id ≡ true) (λ (x : Demand). same_demand x.id y.id ≡ false) (λ x e. other_way y.id x.id e) ds order.0)),
  each-weaker (λ (x : Demand). (is_earlier y.id x.id ≡ true) × (has_id (map id_of (filter r ds)) x.id ≡ r x)) (λ (x : Demand). has_id (map id_of (cond (r y) (y ∷ filter r ds) (filter r ds))) x.id ≡ r x)
      (λ x h. other_held (r y) (r x) y x (filter r ds) (this_way y.id x.id h.0) h.1) ds
      (both_each (λ (x : Demand). is_earlier y.id x.id ≡ true) (λ (x : Demand). has_id (map id_of (filter r ds)) x.id ≡ r x) ds order.0 (held_each r ds order.1)),
)

held_one : (s : SceneParts) (p : Demand → Bool) (ds : List Demand) (lists : List (List DemandId)) (x : Demand) → lists ≡ each_below (ids_at s (filter p ds)) (8 * keys s) → x.agent.0 < length s.agents →
    has_id (map id_of (filter (λ z. p z && is_at s (place_of s x) z) ds)) x.id ≡ (p x && is_at s (place_of s x) x) → waits_in s lists x ≡ p x
held_one s p ds lists x are known has =
    let list : list_at lists (place_of s x) ≡ ids_at s (filter p ds) (place_of s x) = ap (λ ls. list_at ls (place_of s x)) are ∙ get_or-each_below (ids_at s (filter p ds)) (8 * keys s) (place_of s x) [] (place_known s x known) in
    let both : ids_at s (filter p ds) (place_of s x) ≡ map id_of (filter (λ z. p z && is_at s (place_of s x) z) ds) = ap (map id_of) (filter-filter (is_at s (place_of s x)) p ds) in
    let here : is_at s (place_of s x) x ≡ true = eq-eqb (place_of s x) (place_of s x) refl in
    ap (λ l. has_id l x.id) (list ∙ both) ∙ (has ∙ (ap (λ b. p x && b) here ∙ and-right (p x)))

-- the queues of those that pass a test hold just those
pub held_is : (s : SceneParts) (p : Demand → Bool) (ds : List Demand) (lists : List (List DemandId)) → AreInOrder ds → AllByRecursion (λ d. d.agent.0 < length s.agents) ds → lists ≡ each_below (ids_at s (filter p ds)) (8 * keys s) → waiting_in s lists ds ≡ filter p ds
held_is s p ds lists order known are =
    filter_same_each (waits_in s lists) p ds
    (each-weaker (λ (x : Demand). (x.agent.0 < length s.agents) × (has_id (map id_of (filter (λ z. p z && is_at s (place_of s x) z) ds)) x.id ≡ (p x && is_at s (place_of s x) x))) (λ (x : Demand). waits_in s lists x ≡ p x)
    (λ x h. held_one s p ds lists x are h.0 h.1) ds
    (both_each (λ (x : Demand). x.agent.0 < length s.agents) (λ (x : Demand). has_id (map id_of (filter (λ z. p z && is_at s (place_of s x) z) ds)) x.id ≡ (p x && is_at s (place_of s x) x)) ds known
    (each_diagonal (λ n (x : Demand). has_id (map id_of (filter (λ z. p z && is_at s n z) ds)) x.id ≡ (p x && is_at s n x)) (place_of s) ds (λ n. held_each (λ z. p z && is_at s n z) ds order))))
