-- The subscriptions of all agents: who is registered, and which rows and filters of each agent are active.
use Rattle.std.specs.Prelude.{◌≡◌, ◌<◌, List, [], ◌∷◌, ◌++◌, length, map, replicate, slice_set, slice_index_or, Bool, false, not, ◌==◌}
use Rattle.std.specs.List.{All, IsDistinct, filter, list_any}
use Rattle.so_ids.specs.declared.AgentId.{AgentId}
use Rattle.so_ids.specs.declared.RowId.{RowId}
use Rattle.so_ids.specs.declared.FilterId.{FilterId}
use Rattle.so_ids.specs.declared.MboxId.{MboxId}
use Rattle.so_ids.specs.declared.MsgId.{MsgId}
use Rattle.so_ids.specs.declared.Payload.{Payload}
use Rattle.so_state.specs.Choice.{is_for}
use Rattle.so_state.specs.declared.choice.Row.{Row}
use Rattle.so_scene.specs.declared.parts.AgentDef.{AgentDef}
use Rattle.so_scene.specs.declared.parts.SceneParts.{SceneParts}
use Rattle.so_scene.specs.Parts.{rows_of, filters_of}
use Rattle.so_scene.specs.Delivery.{receivers_among, passes_with}
use Rattle.so_scene.specs.Subscriptions.{rows_first, row_set, row_dropped, filters_first, filter_set, filter_dropped}

-- the agents that are registered, in order of registration, and for each agent of the scene which of its rows and which of its
-- filters are active
pub record Subscriptions : Type 0 where
  pub scene : SceneParts
  pub order : List AgentId
  pub rows : List (List Bool)
  pub filters : List (List Bool)

abbrev pub active_rows : Subscriptions → AgentId → List Bool
active_rows t a = slice_index_or t.rows a.0 []

abbrev pub active_filters : Subscriptions → AgentId → List Bool
active_filters t a = slice_index_or t.filters a.0 []

abbrev pub IsAgentOf : SceneParts → AgentId → Type 0
IsAgentOf s a = a.0 < length s.agents

abbrev pub same_agent : AgentId → AgentId → Bool
same_agent a b = a.0 == b.0

abbrev pub is_other : AgentId → AgentId → Bool
is_other a b = not (same_agent a b)

abbrev pub is_entered : Subscriptions → AgentId → Bool
is_entered t a = list_any (same_agent a) t.order

-- ---- its making

abbrev pub none_active : List Row → List Bool
none_active rows = replicate (length rows) false

abbrev pub all_none : AgentDef → List Bool
all_none a = none_active a.rows

abbrev pub all_filters_first : AgentDef → List Bool
all_filters_first a = filters_first a.filters

abbrev pub nobody : SceneParts → Subscriptions
nobody s = record { scene = s; order = []; rows = map all_none s.agents; filters = map all_filters_first s.agents }

-- ---- after each change

-- these rows of the agent are active, or these filters
abbrev pub with_rows : AgentId → List Bool → Subscriptions → Subscriptions
with_rows a active t = record t { rows = slice_set t.rows a.0 active }

-- this row of the agent is active, or isn't
abbrev pub with_row : AgentId → RowId → Bool → Subscriptions → Subscriptions
with_row a row on t = with_rows a (slice_set (active_rows t a) row.0 on) t

abbrev pub with_filters : AgentId → List Bool → Subscriptions → Subscriptions
with_filters a active t = record t { filters = slice_set t.filters a.0 active }

abbrev pub with_order : List AgentId → Subscriptions → Subscriptions
with_order agents t = record t { order = agents }

-- a registered agent has the rows and filters that are active from the start
abbrev pub after_enter : AgentId → Subscriptions → Subscriptions
after_enter a t = with_order (t.order ++ a ∷ []) (with_rows a (rows_first (rows_of t.scene a)) (with_filters a (filters_first (filters_of t.scene a)) t))

-- one that has left has no active rows
abbrev pub after_leave : AgentId → Subscriptions → Subscriptions
after_leave a t = with_order (filter (is_other a) t.order) (with_rows a (none_active (rows_of t.scene a)) t)

-- these agents are registered one after the other, or leave so
abbrev pub entered : List AgentId → Subscriptions → Subscriptions
entered [] t = t
entered (a ∷ agents) t = entered agents (after_enter a t)

abbrev pub departed : List AgentId → Subscriptions → Subscriptions
departed [] t = t
departed (a ∷ agents) t = departed agents (after_leave a t)

-- no flag of these agents is set
abbrev pub cleared : List AgentId → List (List Bool) → List (List Bool)
cleared [] lists = lists
cleared (a ∷ agents) lists = cleared agents (slice_set lists a.0 (replicate (length (slice_index_or lists a.0 [])) false))

-- the agent is none of these
abbrev pub is_none_of : List AgentId → AgentId → Bool
is_none_of agents a = not (list_any (same_agent a) agents)

abbrev pub after_subscribe : AgentId → RowId → Subscriptions → Subscriptions
after_subscribe a row t = with_rows a (row_set row (active_rows t a)) t

abbrev pub after_unsubscribe : AgentId → RowId → Subscriptions → Subscriptions
after_unsubscribe a row t = with_rows a (row_dropped row (active_rows t a)) t

abbrev pub after_set_filter : AgentId → FilterId → Subscriptions → Subscriptions
after_set_filter a f t = with_filters a (filter_set (filters_of t.scene a) f.0 (active_filters t a)) t

abbrev pub after_drop_filter : AgentId → FilterId → Subscriptions → Subscriptions
after_drop_filter a f t = with_filters a (filter_dropped f.0 (active_filters t a)) t

-- ---- what is read

abbrev pub is_row_active : Subscriptions → AgentId → RowId → Bool
is_row_active t a row = slice_index_or (active_rows t a) row.0 false

abbrev pub is_filter_active : Subscriptions → AgentId → FilterId → Bool
is_filter_active t a f = slice_index_or (active_filters t a) f.0 false

-- the agent has a row, active or not, for messages of the type from the mbox
abbrev pub has_row : SceneParts → MboxId → MsgId → AgentId → Bool
has_row s mbox msg a = list_any (is_for mbox msg) (rows_of s a)

-- the registered agents that have one, in order of registration
abbrev pub candidates : Subscriptions → MboxId → MsgId → List AgentId
candidates t mbox msg = filter (has_row t.scene mbox msg) t.order

-- who receives messages of the type from the mbox, in order of registration
abbrev pub receivers : Subscriptions → MboxId → MsgId → List AgentId
receivers t mbox msg = receivers_among t.scene (active_rows t) mbox msg t.order

abbrev pub passes : Subscriptions → MboxId → MsgId → Payload → AgentId → Bool
passes t mbox msg payload a = passes_with t.scene mbox msg payload a (active_filters t a)

-- ---- what holds of it

-- there is a list of rows and of filters for each agent, of the right length, and no agent is registered twice
pub record IsTable (t : Subscriptions) : Type 0 where
  pub rows : length t.rows ≡ length t.scene.agents
  pub filters : length t.filters ≡ length t.scene.agents
  pub each_row : (a : AgentId) → length (active_rows t a) ≡ length (rows_of t.scene a)
  pub each_filter : (a : AgentId) → length (active_filters t a) ≡ length (filters_of t.scene a)
  pub agents : All (IsAgentOf t.scene) t.order
  pub once : IsDistinct same_agent t.order
