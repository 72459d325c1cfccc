-- Which demand of a queue is next: the first that waits, and with priorities the first of the priority that is next.
use Rattle.std.specs.Prelude.{ℕ, ◌-◌, ◌==◌, List, [], ◌∷◌, Bool, true, false, ◌&&◌, Option, Some, None, if◌then◌else◌}
use Rattle.std.specs.List.{filter, find, list_any}
use Rattle.std.specs.Option.{option_and_then}
use Rattle.so_ids.specs.declared.AgentId.{AgentId}
use Rattle.so_ids.specs.declared.DispId.{DispId}
use Rattle.so_ids.specs.declared.KeyId.{KeyId}
use Rattle.so_ids.specs.Ids.{same_demand}
use Rattle.so_lists.specs.Lists.{head, each_below}
use Rattle.so_scene.specs.declared.parts.DispKind.{DispKind}
use Rattle.so_scene.specs.declared.parts.DispKind.TheVariants.{StrictlyOrdered, QuotedRoundRobin}
use Rattle.so_scene.specs.declared.parts.SceneParts.{SceneParts}
use Rattle.so_scene.specs.declared.round.Round.{Round}
use Rattle.so_scene.specs.Parts.{agent_of, disp_of, priority_of}
use Rattle.so_scene.specs.Lanes.{key_of, is_bound, lane_at}
use Rattle.so_scene.specs.Rounds.{first_round, moved, one_used}
use Rattle.so_history.specs.declared.entry.Entry.{Entry}
use Rattle.so_history.specs.declared.entry.EntryKind.{EntryKind}
use Rattle.so_history.specs.declared.entry.EntryKind.TheVariants.{Begin, Skip}
use Rattle.so_history.specs.declared.entry.Demand.{Demand}
use Rattle.so_history.specs.Demands.{waiting}
use Rattle.so_history.specs.Safety.{kind_of}

-- ---- by priority

-- a demand of an agent of this priority, and whether there is one among these
abbrev pub is_of_priority : SceneParts → ℕ → Demand → Bool
is_of_priority s p d = (priority_of s d.agent).level == p

abbrev pub some_of_priority : SceneParts → List Demand → ℕ → Bool
some_of_priority s ds p = list_any (is_of_priority s p) ds

-- the first of a priority among these, and the first of the highest priority that has one
abbrev pub first_of_priority : SceneParts → List Demand → ℕ → Option Demand
first_of_priority s ds p = find (is_of_priority s p) ds

abbrev pub from_highest : List ℕ
from_highest = each_below (λ k. 7 - k) 8

abbrev pub first_of_highest : SceneParts → List Demand → Option Demand
first_of_highest s ds = option_and_then (first_of_priority s ds) (find (some_of_priority s ds) from_highest)

-- ---- the round of a quoted_round_robin dispatcher

-- of these demands, those for agents that are bound to a dispatcher
abbrev pub on_dispatcher : SceneParts → DispId → List Demand → List Demand
on_dispatcher s disp ds = filter (λ d. is_bound s disp d.agent) ds

-- the round of a dispatcher moved over its demands among these
abbrev pub moved_round : SceneParts → List Demand → DispId → Round → Round
moved_round s ds disp r = moved (disp_of s disp).quotes (some_of_priority s (on_dispatcher s disp ds)) r

-- only these dispatchers have rounds that are moved
abbrev pub has_rounds : DispKind → Bool
has_rounds QuotedRoundRobin = true
has_rounds other = false

-- a lane of such a dispatcher takes a demand
abbrev pub takes_on : SceneParts → DispId → EntryKind → Bool
takes_on s disp (Begin lane demand opening agent) = has_rounds (disp_of s disp).kind && ((lane_at s lane).disp.0 == disp.0)
takes_on s disp (Skip lane demand why) = has_rounds (disp_of s disp).kind && ((lane_at s lane).disp.0 == disp.0)
takes_on s disp other = false

-- each taking of the dispatcher moves its round over the demands that wait then, and uses one of the quote
unfoldable pub round : SceneParts → List Entry → DispId → Round
round s [] disp = first_round
round s (e ∷ h) disp = if takes_on s disp e.kind then one_used (moved_round s (waiting s h) disp (round s h disp)) else round s h disp

-- ---- the demand that is next

-- of these demands, those that stand in a queue
abbrev pub in_queue : SceneParts → KeyId → List Demand → List Demand
in_queue s key ds = filter (λ d. (key_of s d.agent).0 == key.0) ds

-- the next one in the queue of an agent, where these wait and rounds stand so
abbrev pub next_by : DispKind → SceneParts → List Demand → (DispId → Round) → AgentId → Option Demand
next_by StrictlyOrdered s ds rounds a = first_of_highest s (in_queue s (key_of s a) ds)
next_by QuotedRoundRobin s ds rounds a = first_of_priority s (in_queue s (key_of s a) ds) (moved_round s ds (agent_of s a).disp (rounds (agent_of s a).disp)).priority.level
next_by other s ds rounds a = head (in_queue s (key_of s a) ds)

-- the demand is that one
abbrev pub is_it : Demand → Option Demand → Bool
is_it d None = false
is_it d (Some c) = same_demand c.id d.id

abbrev pub is_next_among : SceneParts → List Demand → (DispId → Round) → Demand → Bool
is_next_among s ds rounds d = is_it d (next_by (kind_of s d.agent) s ds rounds d.agent)

abbrev pub is_next : SceneParts → List Entry → Demand → Bool
is_next s h d = is_next_among s (waiting s h) (round s h) d
