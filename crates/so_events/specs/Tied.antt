-- How the queues are tied to the demands that wait.
use Rattle.std.specs.Prelude.{◌≡◌, ℕ, ◌+◌, ◌*◌, ◌<◌, ◌≤◌, ◌==◌, ◌||◌, List, [], ◌∷◌, length, map, slice_index_or, Bool, true, false}
use Rattle.std.specs.List.{filter, AllByRecursion}
use Rattle.so_ids.specs.declared.DemandId.{DemandId}
use Rattle.so_ids.specs.Ids.{same_demand, is_earlier}
use Rattle.so_lists.specs.Lists.{each_below}
use Rattle.so_scene.specs.declared.parts.SceneParts.{SceneParts}
use Rattle.so_scene.specs.Lanes.{keys, agent_number}
use Rattle.so_queue.specs.Queues.{QueueTable, list_at}
use Rattle.so_history.specs.declared.entry.Demand.{Demand}
use Rattle.so_history.specs.Safety.{kind_of, lets_overlap}
use Rattle.so_events.specs.Events.{place_of}

-- demands in order: each is earlier than all that follow it
abbrev pub AreInOrder : List Demand → Type 0
AreInOrder [] = Unit {0}
AreInOrder (d ∷ ds) = AllByRecursion (λ x. is_earlier d.id x.id ≡ true) ds × AreInOrder ds

abbrev pub id_of : Demand → DemandId
id_of d = d.id

abbrev pub is_at : SceneParts → ℕ → Demand → Bool
is_at s n d = place_of s d == n

-- the names of the demands that wait at a place, in order
abbrev pub ids_at : SceneParts → List Demand → ℕ → List DemandId
ids_at s ds n = map id_of (filter (is_at s n) ds)

abbrev pub has_id : List DemandId → DemandId → Bool
has_id [] d = false
has_id (e ∷ es) d = same_demand e d || has_id es d

-- the demand stands in these queues
abbrev pub waits_in : SceneParts → List (List DemandId) → Demand → Bool
waits_in s lists d = has_id (list_at lists (place_of s d)) d.id

-- of all demands, those that do
abbrev pub waiting_in : SceneParts → List (List DemandId) → List Demand → List Demand
waiting_in s lists all = filter (waits_in s lists) all

-- a queue whose dispatcher lets thread-safe turns overlap, by its number
abbrev pub overlaps : SceneParts → ℕ → Bool
overlaps s k = lets_overlap (kind_of s (agent_number k))

-- the queues hold the waiting demands, each in its own, and count thread-safe turns only where they may overlap
pub record IsTied (s : SceneParts) (all waiting : List Demand) (q : QueueTable) (cap : ℕ) : Type 0 where
  pub lists : q.lists ≡ each_below (ids_at s waiting) (8 * keys s)
  pub safe : length q.safe ≡ keys s
  pub overlap : (k : ℕ) → overlaps s k ≡ false → slice_index_or q.safe k 0 ≡ 0
  pub exclusive : length q.exclusive ≡ keys s
  pub order : AreInOrder all
  pub agents : AllByRecursion (λ d. d.agent.0 < length s.agents) all
  pub room : q.room + length waiting ≡ cap
  pub few : length all ≤ cap
