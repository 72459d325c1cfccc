-- How many demands wait for each lane.
use Rattle.std.specs.Prelude.{◌≡◌, ℕ, ◌+◌, ◌-◌, ◌<◌, ◌≤◌, ◌==◌, List, length, slice_index_or, slice_set, Bool, false}
use Rattle.std.specs.List.{count_by}
use Rattle.so_ids.specs.declared.AgentId.{AgentId}
use Rattle.so_lists.specs.Lists.{each_below}
use Rattle.so_scene.specs.declared.parts.SceneParts.{SceneParts}
use Rattle.so_scene.specs.Lanes.{keys, key_of, lanes, serves}
use Rattle.so_history.specs.declared.entry.Demand.{Demand}
use Rattle.so_events.specs.declared.counts.LaneCounts.{LaneCounts}

-- by the numbers of the queues, a lane before which none serves the queue
pub record AreFirst (s : SceneParts) (firsts : List ℕ) : Type 0 where
  pub size : length firsts ≡ keys s
  pub within : (k : ℕ) → k < keys s → slice_index_or firsts k 0 ≤ lanes s
  pub none : (k l : ℕ) → k < keys s → l < slice_index_or firsts k 0 → serves s (record { 0 = l }) (record { 0 = k }) ≡ false

-- the lane for which an agent's demands wait
abbrev pub first_for : SceneParts → List ℕ → AgentId → ℕ
first_for s firsts a = slice_index_or firsts (key_of s a).0 0

abbrev pub waits_for : SceneParts → List ℕ → ℕ → Demand → Bool
waits_for s firsts l d = first_for s firsts d.agent == l

abbrev pub waiting_for : SceneParts → List ℕ → List Demand → ℕ → ℕ
waiting_for s firsts ds l = count_by (waits_for s firsts l) ds

abbrev pub one_demand_more : ℕ → List ℕ → List ℕ
one_demand_more l counts = slice_set counts l (slice_index_or counts l 0 + 1)

abbrev pub one_demand_less : ℕ → List ℕ → List ℕ
one_demand_less l counts = slice_set counts l (slice_index_or counts l 0 - 1)

-- of these demands, so many wait for each lane, and last for none
pub record IsCounted (s : SceneParts) (ds : List Demand) (c : LaneCounts) : Type 0 where
  pub first : AreFirst s c.firsts.items
  pub counts : c.waiting.items ≡ each_below (waiting_for s c.firsts.items ds) (lanes s + 1)
