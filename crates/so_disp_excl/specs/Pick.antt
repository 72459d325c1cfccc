-- Which demand a lane may take where no two turns of a queue overlap.
use Rattle.std.specs.Prelude.{ℕ, Bool, ◌&&◌, Option, None, if◌then◌else◌}
use Rattle.so_ids.specs.declared.DemandId.{DemandId}
use Rattle.so_ids.specs.declared.KeyId.{KeyId}
use Rattle.so_ids.specs.declared.LaneId.{LaneId}
use Rattle.so_scene.specs.declared.parts.SceneParts.{SceneParts}
use Rattle.so_scene.specs.Lanes.{keys, serves}
use Rattle.so_queue.specs.Queues.{QueueTable, front_of_key}
use Rattle.so_queue.specs.Picks.{is_quiet, least_below}

-- the lane serves the queue, and no turn of it runs
abbrev pub is_open : SceneParts → QueueTable → LaneId → KeyId → Bool
is_open s q lane key = serves s lane key && is_quiet q key

-- the front of a queue, where the lane may take from it
abbrev pub open_front : SceneParts → QueueTable → LaneId → ℕ → Option DemandId
open_front s q lane k = if is_open s q lane (record { 0 = k }) then front_of_key q.lists k else None

-- the demand that a lane may take: the least of the fronts of all queues that it may take from
unfoldable pub pick : SceneParts → QueueTable → LaneId → Option DemandId
pick s q lane = least_below (open_front s q lane) (keys s)
