-- The rules that an agent's subscriptions and filters keep, so that it may be registered.
use Rattle.std.specs.Prelude.{ℕ, List, length, take, zip, slice_get, nat_lt, Bool, not, ◌&&◌, ◌||◌, ◌==◌, Option, Some, None, if◌then◌else◌}
use Rattle.std.specs.List.{list_any}
use Rattle.std.specs.Option.{option_and_then}
use Rattle.so_ids.specs.declared.AgentId.{AgentId}
use Rattle.so_ids.specs.declared.MboxId.{MboxId}
use Rattle.so_ids.specs.declared.DefFault.{DefFault}
use Rattle.so_ids.specs.declared.DefFault.TheVariants.{NotOwner, Twice, DirectMbox, IsSignal}
use Rattle.so_lists.specs.Lists.{or_else, first_below}
use Rattle.so_state.specs.declared.choice.Row.{Row}
use Rattle.so_state.specs.States.{same_state}
use Rattle.so_state.specs.Choice.{is_dead, is_for}
use Rattle.so_scene.specs.declared.parts.FilterDef.{FilterDef}
use Rattle.so_scene.specs.declared.parts.SceneParts.{SceneParts}
use Rattle.so_scene.specs.Parts.{message_of, rows_of, filters_of}

-- the mbox is the direct one of some agent
abbrev pub is_direct : SceneParts → MboxId → Bool
is_direct s mbox = nat_lt mbox.0 (length s.agents)

-- the row names another agent's direct mbox
abbrev pub is_not_owner : SceneParts → AgentId → Row → Bool
is_not_owner s a row = is_direct s row.mbox && not (row.mbox.0 == a.0)

-- both are dead-letter rows, or neither is and they are of one state
abbrev pub same_kind : Row → Row → Bool
same_kind row other = (is_dead row.kind && is_dead other.kind) || (not (is_dead row.kind || is_dead other.kind) && same_state row.state other.state)

-- an active row for the same events
abbrev pub clashes : Row → Row × Bool → Bool
clashes row other = other.1 && (is_for row.mbox row.msg other.0 && same_kind row other.0)

abbrev pub is_twice : List Row → List Bool → Row → Bool
is_twice rows active row = list_any (clashes row) (zip rows active)

-- the same of a row that is active from the start
abbrev pub clashes_first : Row → Row → Bool
clashes_first row other = clashes row (other, other.active)

-- the fault of a row that follows these
abbrev pub row_fault_after : SceneParts → AgentId → List Row → Row → Option DefFault
row_fault_after s a before row =
    if is_not_owner s a row then Some NotOwner
    else (if row.active && list_any (clashes_first row) before then Some Twice else None)

abbrev pub row_fault : SceneParts → AgentId → ℕ → Option DefFault
row_fault s a k = option_and_then (row_fault_after s a (take k (rows_of s a))) (slice_get (rows_of s a) k)

-- a filter stands on no direct mbox, and tests no signal
abbrev pub filter_fault_of : SceneParts → FilterDef → Option DefFault
filter_fault_of s f = if is_direct s f.mbox then Some DirectMbox else (if (message_of s f.msg).signal then Some IsSignal else None)

abbrev pub filter_fault : SceneParts → AgentId → ℕ → Option DefFault
filter_fault s a k = option_and_then (filter_fault_of s) (slice_get (filters_of s a) k)

-- the first rule that an agent breaks: row by row, then filter by filter
unfoldable pub definition_fault : SceneParts → AgentId → Option DefFault
definition_fault s a =
    or_else (first_below (row_fault s a) (length (rows_of s a)))
    (first_below (filter_fault s a) (length (filters_of s a)))
