-- Which demand a lane may take, and what it then begins.
use Rattle.std.specs.Prelude.{List, Bool, ◌&&◌, ◌||◌, Option, Some, None, is_some, if◌then◌else◌}
use Rattle.std.specs.List.{find, list_all}
use Rattle.so_ids.specs.declared.AgentId.{AgentId}
use Rattle.so_ids.specs.declared.LaneId.{LaneId}
use Rattle.so_ids.specs.declared.Opening.{Opening}
use Rattle.so_ids.specs.declared.Opening.TheVariants as opening
use Rattle.so_ids.specs.declared.Chosen.TheVariants.{Nothing, Suppressed}
use Rattle.so_lists.specs.Lists.{is_empty}
use Rattle.so_scene.specs.declared.parts.SceneParts.{SceneParts}
use Rattle.so_scene.specs.Lanes.{key_of, serves}
use Rattle.so_history.specs.declared.entry.Entry.{Entry}
use Rattle.so_history.specs.declared.entry.EntryKind.{EntryKind}
use Rattle.so_history.specs.declared.entry.EntryKind.TheVariants.{Begin, Skip}
use Rattle.so_history.specs.declared.entry.SkipWhy.{SkipWhy}
use Rattle.so_history.specs.declared.entry.SkipWhy.TheVariants as why
use Rattle.so_history.specs.declared.entry.Demand.{Demand}
use Rattle.so_history.specs.declared.entry.DemandKind.{DemandKind}
use Rattle.so_history.specs.declared.entry.DemandKind.TheVariants.{Start, Finish, Event}
use Rattle.so_history.specs.Delivery.{chosen_for}
use Rattle.so_history.specs.Demands.{waiting}
use Rattle.so_history.specs.Safety.{is_safe}
use Rattle.so_history.specs.Turns.{Started, running_on, running_with}
use Rattle.so_history.specs.Heads.{is_next}

-- how a turn begins with a demand after this history: an event with what is chosen for it
abbrev pub opening_for : SceneParts → List Entry → AgentId → DemandKind → Opening
opening_for s h a Start = opening.Start
opening_for s h a Finish = opening.Finish
opening_for s h a (Event mbox msg payload) = opening.Event (chosen_for s h a mbox msg)

abbrev pub opening_of : SceneParts → List Entry → Demand → Opening
opening_of s h d = opening_for s h d.agent d.kind

-- a demand without a turn: an event for which nothing is chosen, or that is suppressed
abbrev pub skipped : Opening → Option SkipWhy
skipped (opening.Event Nothing) = Some why.Nothing
skipped (opening.Event Suppressed) = Some why.Suppressed
skipped other = None

-- ---- which demand a lane may take

-- a turn that runs is thread-safe
abbrev pub runs_safe : SceneParts → Started → Bool
runs_safe s t = is_safe s t.agent t.opening

-- a demand that goes beside thread-safe turns: its turn is thread-safe, or it is skipped
abbrev pub goes_beside : SceneParts → AgentId → Opening → Bool
goes_beside s a begins = is_safe s a begins || is_some (skipped begins)

-- no turn runs among these, or all are thread-safe and the demand goes beside them
abbrev pub is_allowed_beside : SceneParts → AgentId → Opening → List Started → Bool
is_allowed_beside s a begins runs = is_empty runs || (goes_beside s a begins && list_all (runs_safe s) runs)

abbrev pub is_allowed : SceneParts → List Entry → Demand → Bool
is_allowed s h d = is_allowed_beside s d.agent (opening_of s h d) (running_with s h (key_of s d.agent))

-- a lane is free where none of its turns runs
abbrev pub is_free : List Entry → LaneId → Bool
is_free h lane = is_empty (running_on h lane)

-- the lane serves the demand's queue, the demand is the next of it, and the turns of the queue that run allow it
abbrev pub may_take : SceneParts → List Entry → LaneId → Demand → Bool
may_take s h lane d = serves s lane (key_of s d.agent) && (is_next s h d && is_allowed s h d)

-- the demand that a lane may take: the first such that waits
unfoldable pub pick : SceneParts → List Entry → LaneId → Option Demand
pick s h lane = if is_free h lane then find (may_take s h lane) (waiting s h) else None

-- ---- what it then begins

abbrev pub taking_as : LaneId → Demand → Opening → Option SkipWhy → EntryKind
taking_as lane d begins None = Begin lane (Some d.id) begins d.agent
taking_as lane d begins (Some why) = Skip lane d.id why

-- the entry by which a lane takes a demand: a turn begins, or the demand is skipped
abbrev pub taking : SceneParts → List Entry → LaneId → Demand → EntryKind
taking s h lane d = taking_as lane d (opening_of s h d) (skipped (opening_of s h d))
