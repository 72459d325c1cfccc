-- Which demand a lane may take from the queues, by the kind of its dispatcher.
use Rattle.std.specs.Prelude.{List, Option}
use Rattle.so_ids.specs.declared.DemandId.{DemandId}
use Rattle.so_ids.specs.declared.LaneId.{LaneId}
use Rattle.so_scene.specs.declared.parts.DispKind.{DispKind}
use Rattle.so_scene.specs.declared.parts.DispKind.TheVariants.{AdvThreadPool, StrictlyOrdered, QuotedRoundRobin}
use Rattle.so_scene.specs.declared.parts.SceneParts.{SceneParts}
use Rattle.so_scene.specs.declared.round.Round.{Round}
use Rattle.so_queue.specs.Queues.{QueueTable}
use Rattle.so_disp_adv.specs.declared.heads.HeadClass.{HeadClass}
use Rattle.so_disp_excl.specs.Pick.{pick as pick_exclusive}
use Rattle.so_disp_adv.specs.Pick.{pick as pick_beside}
use Rattle.so_disp_prio.specs.Pick.{pick as pick_by_priority}

-- each kind of dispatcher picks in its own way
abbrev pub picked_on : DispKind → SceneParts → QueueTable → List Round → (DemandId → HeadClass) → LaneId → Option DemandId
picked_on AdvThreadPool s q rounds class lane = pick_beside s q class lane
picked_on StrictlyOrdered s q rounds class lane = pick_by_priority s rounds q lane
picked_on QuotedRoundRobin s q rounds class lane = pick_by_priority s rounds q lane
picked_on other s q rounds class lane = pick_exclusive s q lane
