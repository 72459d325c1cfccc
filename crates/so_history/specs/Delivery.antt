-- Who is subscribed to what, and what becomes of a message that is sent through a mbox.
use Rattle.std.specs.Prelude.{List, [], ◌∷◌, ◌++◌, length, replicate, Bool, false, if◌then◌else◌}
use Rattle.so_ids.specs.declared.AgentId.{AgentId}
use Rattle.so_ids.specs.declared.CoopId.{CoopId}
use Rattle.so_ids.specs.declared.Place.{Place}
use Rattle.so_ids.specs.declared.MboxId.{MboxId}
use Rattle.so_ids.specs.declared.MsgId.{MsgId}
use Rattle.so_ids.specs.declared.Payload.{Payload}
use Rattle.so_ids.specs.declared.Sent.{Sent}
use Rattle.so_ids.specs.declared.Chosen.{Chosen}
use Rattle.so_code.specs.declared.effect.Effect.{Effect}
use Rattle.so_code.specs.declared.effect.Effect.TheVariants as effect
use Rattle.so_code.specs.declared.effect.Answer.{Answer}
use Rattle.so_code.specs.declared.effect.Answer.TheVariants as answer
use Rattle.so_state.specs.Choice.{chosen}
use Rattle.so_scene.specs.declared.parts.SceneParts.{SceneParts}
use Rattle.so_scene.specs.Parts.{agent_of, agents_of, rows_of, filters_of, states_of}
use Rattle.so_scene.specs.Delivery.{Outcome, receivers_among, passes_with, outcomes, sent_of}
use Rattle.so_scene.specs.Subscriptions.{rows_first, row_set, row_dropped, filters_first, filter_set, filter_dropped}
use Rattle.so_history.specs.declared.entry.Entry.{Entry}
use Rattle.so_history.specs.declared.entry.EntryKind.{EntryKind}
use Rattle.so_history.specs.declared.entry.EntryKind.TheVariants.{Register, Act, Left}
use Rattle.so_history.specs.Leaves.{is_of, is_turn_of, leaf_of}
use Rattle.so_history.specs.Coops.{roster, leaving}

-- ---- which agents are registered

-- the agents that are registered, in order of registration
abbrev pub agents_of_each : SceneParts → List CoopId → List AgentId
agents_of_each s [] = []
agents_of_each s (c ∷ cs) = agents_of s c ++ agents_of_each s cs

abbrev pub registered : SceneParts → List Entry → List AgentId
registered s h = agents_of_each s (roster h)

-- ---- which of an agent's rows and filters are active: its registration sets them back, its own acts change them

-- no row of the agent is active
abbrev pub no_rows : SceneParts → AgentId → List Bool
no_rows s a = replicate (length (rows_of s a)) false

abbrev pub rows_by_effect : SceneParts → List Entry → Place → Effect → Answer → AgentId → List Bool → List Bool
rows_by_effect s h turn (effect.Subscribe row) answer.Yes a rows = if is_turn_of h turn a then row_set row rows else rows
rows_by_effect s h turn (effect.Unsubscribe row) answer.Yes a rows = if is_turn_of h turn a then row_dropped row rows else rows
rows_by_effect s h turn (effect.Register coop) answer.Okay a rows = if is_of s coop a then rows_first (rows_of s a) else rows
rows_by_effect s h turn effect answer a rows = rows

abbrev pub rows_by : SceneParts → List Entry → EntryKind → AgentId → List Bool → List Bool
rows_by s h (Register coop) a rows = if is_of s coop a then rows_first (rows_of s a) else rows
rows_by s h (Left coop) a rows = if is_of s coop a then no_rows s a else rows
rows_by s h (Act turn effect answer) a rows = rows_by_effect s h turn effect answer a rows
rows_by s h other a rows = rows

-- an agent that isn't registered has no active row
unfoldable pub active_rows : SceneParts → List Entry → AgentId → List Bool
active_rows s [] a = no_rows s a
active_rows s (e ∷ h) a = rows_by s h e.kind a (active_rows s h a)

abbrev pub filters_by_effect : SceneParts → List Entry → Place → Effect → Answer → AgentId → List Bool → List Bool
filters_by_effect s h turn (effect.SetFilter filter) answer.Yes a filters = if is_turn_of h turn a then filter_set (filters_of s a) filter.0 filters else filters
filters_by_effect s h turn (effect.DropFilter filter) answer.Yes a filters = if is_turn_of h turn a then filter_dropped filter.0 filters else filters
filters_by_effect s h turn (effect.Register coop) answer.Okay a filters = if is_of s coop a then filters_first (filters_of s a) else filters
filters_by_effect s h turn effect answer a filters = filters

abbrev pub filters_by : SceneParts → List Entry → EntryKind → AgentId → List Bool → List Bool
filters_by s h (Register coop) a filters = if is_of s coop a then filters_first (filters_of s a) else filters
filters_by s h (Act turn effect answer) a filters = filters_by_effect s h turn effect answer a filters
filters_by s h other a filters = filters

unfoldable pub active_filters : SceneParts → List Entry → AgentId → List Bool
active_filters s [] a = filters_first (filters_of s a)
active_filters s (e ∷ h) a = filters_by s h e.kind a (active_filters s h a)

-- ---- what becomes of a message

-- the agents that are subscribed to the type from the mbox, in order of registration
unfoldable pub receivers : SceneParts → List Entry → MboxId → MsgId → List AgentId
receivers s h mbox msg = receivers_among s (active_rows s h) mbox msg (registered s h)

-- the agent has no filter that refuses the message
abbrev pub passes : SceneParts → List Entry → MboxId → MsgId → Payload → AgentId → Bool
passes s h mbox msg payload a = passes_with s mbox msg payload a (active_filters s h a)

-- the agent's cooperation is leaving
abbrev pub is_leaving : SceneParts → List Entry → AgentId → Bool
is_leaving s h a = leaving h (agent_of s a).coop

-- what becomes of it at each receiver
abbrev pub delivered : SceneParts → List Entry → MboxId → MsgId → Payload → List Outcome
delivered s h mbox msg payload = outcomes (passes s h mbox msg payload) (is_leaving s h) mbox msg payload (receivers s h mbox msg)

-- what its sender is told
abbrev pub sent : SceneParts → List Entry → MboxId → MsgId → Payload → Sent
sent s h mbox msg payload = sent_of (delivered s h mbox msg payload)

-- ---- what an event is answered by

-- what the agent's rows choose for an event
abbrev pub chosen_for : SceneParts → List Entry → AgentId → MboxId → MsgId → Chosen
chosen_for s h a mbox msg = chosen (states_of s a) (rows_of s a) (active_rows s h a) (leaf_of s h a) mbox msg
