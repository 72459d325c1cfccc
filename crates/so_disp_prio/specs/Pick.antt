-- Which demand a lane may take where the demands of a queue are taken by priority.
use Rattle.std.specs.Prelude.{ℕ, ◌+◌, ◌-◌, ◌*◌, Bool, ◌&&◌, List, slice_index_or, slice_set, Option, None, is_some, if◌then◌else◌}
use Rattle.so_ids.specs.declared.DemandId.{DemandId}
use Rattle.so_ids.specs.declared.DispId.{DispId}
use Rattle.so_ids.specs.declared.KeyId.{KeyId}
use Rattle.so_ids.specs.declared.LaneId.{LaneId}
use Rattle.so_ids.specs.declared.Priority.{Priority}
use Rattle.so_lists.specs.Lists.{first_below}
use Rattle.so_scene.specs.declared.parts.DispDef.{DispDef}
use Rattle.so_scene.specs.declared.parts.DispKind.{DispKind}
use Rattle.so_scene.specs.declared.parts.DispKind.TheVariants.{StrictlyOrdered, QuotedRoundRobin}
use Rattle.so_scene.specs.declared.parts.SceneParts.{SceneParts}
use Rattle.so_scene.specs.declared.round.Round.{Round}
use Rattle.so_scene.specs.Parts.{disp_of}
use Rattle.so_scene.specs.Lanes.{keys, serves, queue_at, lane_at}
use Rattle.so_scene.specs.Rounds.{first_round, moved, after_taking}
use Rattle.so_queue.specs.Queues.{QueueTable, list_at, head_of, front_of_key}
use Rattle.so_queue.specs.Picks.{is_quiet, least_below}

-- the first demand of a queue with a priority, by its level
abbrev pub first_with : QueueTable → KeyId → ℕ → Option DemandId
first_with q key level = head_of (list_at q.lists (8 * key.0 + level))

abbrev pub waits_with : QueueTable → KeyId → ℕ → Bool
waits_with q key level = is_some (first_with q key level)

-- the same, with the priorities counted from the highest
abbrev pub from_top : QueueTable → KeyId → ℕ → Option DemandId
from_top q key k = first_with q key (7 - k)

-- the demand that comes first in a queue, by the kind of its dispatcher and in this round: the first of the highest priority that
-- has one, or the first of the moved round's priority, else the front
abbrev pub head_by : DispKind → List ℕ → Round → QueueTable → KeyId → Option DemandId
head_by StrictlyOrdered quotes r q key = first_below (from_top q key) 8
head_by QuotedRoundRobin quotes r q key = first_with q key (moved quotes (waits_with q key) r).priority.level
head_by other quotes r q key = front_of_key q.lists key.0

abbrev pub head_on : DispDef → Round → QueueTable → KeyId → Option DemandId
head_on d r q key = head_by d.kind d.quotes r q key

-- the round of a dispatcher, where there is one for each in order
abbrev pub round_of : List Round → DispId → Round
round_of rounds d = slice_index_or rounds d.0 first_round

-- the demand that comes first in a queue
abbrev pub head : SceneParts → List Round → QueueTable → KeyId → Option DemandId
head s rounds q key = head_on (disp_of s (queue_at s key.0).disp) (round_of rounds (queue_at s key.0).disp) q key

-- the lane serves the queue, and no turn of it runs
abbrev pub is_open : SceneParts → QueueTable → LaneId → KeyId → Bool
is_open s q lane key = serves s lane key && is_quiet q key

-- the demand that comes first in a queue, where the lane may take from it
abbrev pub open_head : SceneParts → List Round → QueueTable → LaneId → ℕ → Option DemandId
open_head s rounds q lane k = if is_open s q lane (record { 0 = k }) then head s rounds q (record { 0 = k }) else None

-- the demand that a lane may take: the least of those that come first in the queues that it may take from
unfoldable pub pick : SceneParts → List Round → QueueTable → LaneId → Option DemandId
pick s rounds q lane = least_below (open_head s rounds q lane) (keys s)

-- the rounds after a lane takes a demand of a priority: only that of its dispatcher changes, and only with quoted_round_robin
abbrev pub rounds_by : DispKind → List ℕ → DispId → Priority → List Round → List Round
rounds_by QuotedRoundRobin quotes d p rounds = slice_set rounds d.0 (after_taking quotes p (round_of rounds d))
rounds_by other quotes d p rounds = rounds

abbrev pub rounds_on : DispDef → DispId → Priority → List Round → List Round
rounds_on def d p rounds = rounds_by def.kind def.quotes d p rounds

abbrev pub rounds_after : SceneParts → LaneId → Priority → List Round → List Round
rounds_after s lane p rounds = rounds_on (disp_of s (lane_at s lane).disp) (lane_at s lane).disp p rounds
