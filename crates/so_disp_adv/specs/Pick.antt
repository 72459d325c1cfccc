-- Which demand a lane may take where thread-safe turns of a queue may overlap.
use Rattle.std.specs.Prelude.{ℕ, Bool, ◌==◌, ◌&&◌, false, Option, Some, None, if◌then◌else◌}
use Rattle.so_ids.specs.declared.DemandId.{DemandId}
use Rattle.so_ids.specs.declared.KeyId.{KeyId}
use Rattle.so_ids.specs.declared.LaneId.{LaneId}
use Rattle.so_scene.specs.declared.parts.SceneParts.{SceneParts}
use Rattle.so_scene.specs.Lanes.{keys, serves}
use Rattle.so_queue.specs.Queues.{QueueTable, running_of, front_of_key}
use Rattle.so_queue.specs.Picks.{is_quiet, least_below}
use Rattle.so_disp_adv.specs.declared.heads.HeadClass.{HeadClass}
use Rattle.so_disp_adv.specs.declared.heads.HeadClass.TheVariants.{Exclusive, Safe, Skip}

-- a demand may be taken beside the running turns of its queue: an exclusive one where none runs, the others where all that run
-- are thread-safe
abbrev pub may_be_taken : HeadClass → QueueTable → KeyId → Bool
may_be_taken Exclusive q key = is_quiet q key
may_be_taken Safe q key = running_of false key q == 0
may_be_taken Skip q key = running_of false key q == 0

-- the lane serves the queue, and the demand may be taken
abbrev pub is_open : SceneParts → QueueTable → (DemandId → HeadClass) → LaneId → KeyId → DemandId → Bool
is_open s q class lane key d = serves s lane key && may_be_taken (class d) q key

-- the front of a queue, where the lane may take it
abbrev pub open_demand : SceneParts → QueueTable → (DemandId → HeadClass) → LaneId → KeyId → Option DemandId → Option DemandId
open_demand s q class lane key None = None
open_demand s q class lane key (Some d) = if is_open s q class lane key d then Some d else None

abbrev pub open_front : SceneParts → QueueTable → (DemandId → HeadClass) → LaneId → ℕ → Option DemandId
open_front s q class lane k = open_demand s q class lane (record { 0 = k }) (front_of_key q.lists k)

-- the demand that a lane may take: the least of the fronts of all queues that it may take
unfoldable pub pick : SceneParts → QueueTable → (DemandId → HeadClass) → LaneId → Option DemandId
pick s q class lane = least_below (open_front s q class lane) (keys s)
