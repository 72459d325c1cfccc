-- What a checked scene keeps.
use Rattle.std.specs.Prelude.{◌≡◌, ℕ, zero, suc, ◌+◌, ◌++◌, replicate, ◌<◌, ◌≤◌, List, [], ◌∷◌, length, map, slice_index_or, bytes_eq, Bool, false, true, if◌then◌else◌, Option, Some, None, is_some}
use Rattle.std.specs.List.{All, IsDistinct, filter_map}
use Rattle.so_ids.specs.Limits.{most_slots, most_rows, most_messages, most_mboxes, most_lanes, most_coops, most_agents, most_texts}
use Rattle.so_ids.specs.Ids.{default_state}
use Rattle.so_ids.specs.declared.AgentId.{AgentId}
use Rattle.so_ids.specs.declared.CoopId.{CoopId}
use Rattle.so_ids.specs.declared.DispId.{DispId}
use Rattle.so_ids.specs.declared.RowId.{RowId}
use Rattle.so_ids.specs.declared.Target.{Target}
use Rattle.so_ids.specs.declared.Target.TheVariants.{Mbox, Chain}
use Rattle.so_lists.specs.Lists.{head, AreNumbered}
use Rattle.so_code.specs.declared.instr.Instr.{Instr}
use Rattle.so_code.specs.declared.instr.Instr.TheVariants as instr
use Rattle.so_code.specs.Bodies.{bodies_in}
use Rattle.so_code.specs.Shape.{IsCode, agent_bodies}
use Rattle.so_scene.specs.declared.parts.CoopDef.{CoopDef}
use Rattle.so_scene.specs.declared.parts.DispDef.{DispDef}
use Rattle.so_scene.specs.declared.parts.DispKind.{DispKind}
use Rattle.so_scene.specs.declared.parts.DispKind.TheVariants.{ActiveGroup, ThreadPool, AdvThreadPool, QuotedRoundRobin}
use Rattle.so_scene.specs.declared.parts.Fifo.TheVariants.{Cooperation}
use Rattle.so_scene.specs.declared.parts.FilterDef.{FilterDef}
use Rattle.so_state.specs.declared.choice.Row.{Row}
use Rattle.so_state.specs.declared.choice.RowKind.{RowKind}
use Rattle.so_state.specs.declared.choice.RowKind.TheVariants.{Run, Switch, Transfer, Suppress, Dead}
use Rattle.so_state.specs.declared.states.State.{State}
use Rattle.so_state.specs.Fault.{IsTree}
use Rattle.so_ids.specs.declared.StateId.{StateId}
use Rattle.so_scene.specs.declared.parts.AgentDef.{AgentDef}
use Rattle.so_scene.specs.declared.parts.SceneParts.{SceneParts}
use Rattle.so_scene.specs.Parts.{message_name, mbox_names, mboxes, agent_of, coop_of, coop_name, disp_of, disp_name, groups_of, default_disp}
use Rattle.so_scene.specs.Words.{is_name, is_text}
use Rattle.so_scene.specs.Written.{is_state_name, HasParent, IsNumber, IsWritten, are_short, AreSafe}
use Rattle.so_scene.specs.Lanes.{agent_number, bound_to, lanes}

-- what an agent's acts may name: so many mboxes, messages, texts, cooperations and declared states, and its rows and filters, each
-- with its id or without
pub record Named : Type 0 where
  pub mboxes : ℕ
  pub messages : ℕ
  pub texts : ℕ
  pub coops : ℕ
  pub states : ℕ
  pub rows : List (Option (List ℕ))
  pub filters : List (Option (List ℕ))

-- a delivery goes to a mbox of the scene
abbrev pub IsTarget : ℕ → Target → Type 0
IsTarget mboxes (Mbox mbox) = mbox.0 < mboxes
IsTarget mboxes (Chain chain) = ⊥

-- the part of this number has an id
abbrev pub HasId : List (Option (List ℕ)) → ℕ → Type 0
HasId ids k = is_some (slice_index_or ids k None) ≡ true

-- what an instruction names is there. Instructions that don't stand here come in no scene yet
abbrev pub NamesWithin : Named → Instr → Type 0
NamesWithin n (instr.Set to a) = Unit {0}
NamesWithin n (instr.Add to a b) = Unit {0}
NamesWithin n (instr.Sub to a b) = Unit {0}
NamesWithin n (instr.Mul to a b) = Unit {0}
NamesWithin n (instr.If a cmp b count) = Unit {0}
NamesWithin n (instr.Skip count) = Unit {0}
NamesWithin n (instr.Throw a) = Unit {0}
NamesWithin n (instr.Log text args) = text.0 < n.texts
NamesWithin n (instr.Send target msg args) = IsTarget n.mboxes target × (msg.0 < n.messages)
NamesWithin n (instr.Switch to) = to.0 ≤ n.states
NamesWithin n (instr.Subscribe row) = HasId n.rows row.0
NamesWithin n (instr.Unsubscribe row) = HasId n.rows row.0
NamesWithin n (instr.SetFilter filter) = HasId n.filters filter.0
NamesWithin n (instr.DropFilter filter) = HasId n.filters filter.0
NamesWithin n (instr.Register coop) = coop.0 < n.coops
NamesWithin n (instr.Deregister coop) = coop.0 < n.coops
NamesWithin n instr.Stop = Unit {0}
NamesWithin n (instr.End body) = Unit {0}
NamesWithin n other = ⊥

-- ---- dispatchers

abbrev pub is_pool : DispKind → Bool
is_pool ThreadPool = true
is_pool AdvThreadPool = true
is_pool other = false

abbrev pub has_quotes : DispKind → Bool
has_quotes QuotedRoundRobin = true
has_quotes other = false

-- a quote is of 1 to 1,000 events
abbrev pub IsQuote : ℕ → Type 0
IsQuote n = (1 ≤ n) × (n ≤ 1000)

-- threads and the parameter of the queues are a pool's, and quotes are given with quoted_round_robin alone
pub record IsDisp (d : DispDef) : Type 0 where
  pub named : is_name d.name ≡ true
  pub some_slots : 1 ≤ d.slots
  pub few_slots : d.slots ≤ most_slots
  pub some_threads : 1 ≤ d.threads
  pub few_threads : d.threads ≤ 64
  pub no_pool : is_pool d.kind ≡ false → (d.threads ≡ 4) × (d.fifo ≡ Cooperation)
  pub eight : length d.quotes ≡ 8
  pub quotes : All IsQuote d.quotes
  pub no_quotes : has_quotes d.kind ≡ false → d.quotes ≡ replicate 8 20

-- an agent on an active_group dispatcher has a group of that one, and any other has none
abbrev pub IsGroup : DispKind → ℕ → Option ℕ → Type 0
IsGroup ActiveGroup groups (Some g) = g < groups
IsGroup ActiveGroup groups None = ⊥
IsGroup other groups group = group ≡ None

-- the groups that the agents of a dispatcher name, by agent
abbrev pub group_in : SceneParts → AgentId → Option ℕ
group_in s a = (agent_of s a).group

abbrev pub group_uses : SceneParts → DispId → List ℕ
group_uses s d = filter_map (group_in s) (bound_to s d)

-- the groups of a dispatcher have names that differ, and are numbered as agents name them
pub record AreGroups (s : SceneParts) (d : DispId) : Type 0 where
  pub named : All (λ name. is_name name ≡ true) (groups_of s d)
  pub each_once : IsDistinct bytes_eq (groups_of s d)
  pub numbered : AreNumbered (group_uses s d) (length (groups_of s d))

-- ---- texts

abbrev pub text_uses : List Instr → List ℕ
text_uses [] = []
text_uses (instr.Log text args ∷ code) = text.0 ∷ text_uses code
text_uses (other ∷ code) = text_uses code

-- the texts that the first n agents log, in the order of their code
abbrev pub texts_to : SceneParts → ℕ → List ℕ
texts_to s zero = []
texts_to s (suc n) = texts_to s n ++ text_uses (agent_of s (agent_number n)).code

abbrev pub filter_id : FilterDef → Option (List ℕ)
filter_id f = f.id

-- the ids of an agent's filters
abbrev pub filter_ids : AgentDef → List (Option (List ℕ))
filter_ids a = map filter_id a.filters

-- what the acts of this agent may name
abbrev pub named_by : SceneParts → AgentDef → Named
named_by s a = record { mboxes = mboxes s; messages = length s.messages; texts = length s.texts; coops = length s.coops; states = length a.tree; rows = a.row_ids; filters = filter_ids a }

abbrev pub NamesParts : SceneParts → AgentDef → Instr → Type 0
NamesParts s a i = NamesWithin (named_by s a) i

-- ---- cooperations

-- a named parent is one of so many cooperations
abbrev pub IsParent : ℕ → Option CoopId → Type 0
IsParent coops None = Unit {0}
IsParent coops (Some parent) = parent.0 < coops

pub record IsCoop (s : SceneParts) (c : CoopDef) : Type 0 where
  pub named : is_name c.name ≡ true
  pub parent : IsParent (length s.coops) c.parent

-- the agents of these cooperations follow one another: those of the first begin at `from`, and those of the last end before `to`
abbrev pub AreConsecutive : ℕ → ℕ → List CoopDef → Type 0
AreConsecutive from to [] = from ≡ to
AreConsecutive from to (c ∷ coops) = (c.first.0 ≡ from) × AreConsecutive (from + c.count) to coops

-- the agent of this number is one of the cooperation's
abbrev pub IsMember : CoopDef → AgentId → Type 0
IsMember c a = (c.first.0 ≤ a.0) × (a.0 < c.first.0 + c.count)

abbrev pub row_number : ℕ → RowId
row_number k = record { 0 = k }

-- a row that runs a handler, for an event of its state or as a dead letter
abbrev pub has_handler : RowKind → Bool
has_handler Run = true
has_handler Dead = true
has_handler other = false

-- the numbers of the rows with a handler, from k on
abbrev pub handlers_from : ℕ → List Row → List RowId
handlers_from k [] = []
handlers_from k (row ∷ rows) = if has_handler row.kind then row_number k ∷ handlers_from (suc k) rows else handlers_from (suc k) rows

abbrev pub handlers : List Row → List RowId
handlers rows = handlers_from 0 rows

-- what a row does names a state of so many declared ones, or none; a dead letter belongs to no state
abbrev pub IsKind : ℕ → StateId → RowKind → Type 0
IsKind states s Run = Unit {0}
IsKind states s (Switch to) = to.0 ≤ states
IsKind states s (Transfer to) = to.0 ≤ states
IsKind states s Suppress = Unit {0}
IsKind states s Dead = s ≡ default_state

-- a row for messages of a type from a mbox of the scene, in a state of so many declared ones; only a handler is thread-safe
pub record IsRow (s : SceneParts) (states : ℕ) (row : Row) : Type 0 where
  pub mbox : row.mbox.0 < mboxes s
  pub msg : row.msg.0 < length s.messages
  pub state : row.state.0 ≤ states
  pub kind : IsKind states row.state row.kind
  pub safe : row.safe ≡ true → has_handler row.kind ≡ true

-- no state has a time limit, so far
abbrev pub HasNoLimit : State → Type 0
HasNoLimit state = state.limit ≡ None

-- a filter of messages of a type from a mbox of the scene
pub record IsFilter (s : SceneParts) (f : FilterDef) : Type 0 where
  pub mbox : f.mbox.0 < mboxes s
  pub msg : f.msg.0 < length s.messages
  pub field : f.field ≤ 3
  pub value : IsNumber f.value

-- the ids that are given
abbrev pub given : List (Option (List ℕ)) → List (List ℕ)
given [] = []
given (None ∷ ids) = given ids
given (Some id ∷ ids) = id ∷ given ids

-- an agent of a cooperation of the scene: its states are a tree; its rows and filters are for messages of the scene, and no id is given
-- twice; its code is made of its start, its finish, the bodies of each state and of each row with a handler, and names what is there
pub record IsAgent (s : SceneParts) (a : AgentDef) : Type 0 where
  pub named : is_name a.name ≡ true
  pub coop : a.coop.0 < length s.coops
  pub disp : a.disp.0 < length s.dispatchers
  pub group : IsGroup (disp_of s a.disp).kind (length (groups_of s a.disp)) a.group
  pub vars : length a.vars.0 ≡ 16
  pub numbers : All IsNumber a.vars.0
  pub tree : IsTree a.tree
  pub no_limits : All HasNoLimit a.tree
  pub state_names : length a.state_names ≡ length a.tree
  pub states_named : All (λ name. is_state_name name ≡ true) a.state_names
  pub initial : All HasParent a.tree
  pub each_state_once : IsDistinct bytes_eq a.state_names
  pub few_rows : length a.rows ≤ most_rows
  pub rows : All (IsRow s (length a.tree)) a.rows
  pub row_ids : length a.row_ids ≡ length a.rows
  pub rows_named : All (λ name. is_name name ≡ true) (given a.row_ids)
  pub each_row_id_once : IsDistinct bytes_eq (given a.row_ids)
  pub few_filters : length a.filters ≤ 32
  pub filters : All (IsFilter s) a.filters
  pub filters_named : All (λ name. is_name name ≡ true) (given (filter_ids a))
  pub each_filter_id_once : IsDistinct bytes_eq (given (filter_ids a))
  pub code : IsCode a.code
  pub bodies : bodies_in a.code ≡ agent_bodies (length a.tree) (handlers a.rows)
  pub parts : All (NamesParts s a) a.code
  pub written : All (IsWritten s) a.code
  pub short : are_short 0 a.code ≡ true
  pub safe : AreSafe a.rows a.code

-- the parts are those of a scene: no name stands twice in its space, and the cooperations have all agents, each those of its own.
-- A cooperation may be empty, and one that can't be registered may stand there
pub record IsScene (s : SceneParts) : Type 0 where
  pub few_messages : length s.messages ≤ most_messages
  pub messages_named : All (λ name. is_name name ≡ true) (map message_name s.messages)
  pub message_names : IsDistinct bytes_eq (map message_name s.messages)
  pub few_mboxes : length s.mboxes ≤ most_mboxes
  pub mboxes_named : All (λ name. is_name name ≡ true) s.mboxes
  pub default : head s.dispatchers ≡ Some default_disp
  pub few_dispatchers : length s.dispatchers ≤ 64
  pub dispatchers : All IsDisp s.dispatchers
  pub dispatcher_names : IsDistinct bytes_eq (map disp_name s.dispatchers)
  pub all_groups : length s.groups ≡ length s.dispatchers
  pub groups : (d : DispId) → d.0 < length s.dispatchers → AreGroups s d
  pub few_lanes : lanes s ≤ most_lanes
  pub few_coops : length s.coops ≤ most_coops
  pub coops : All (IsCoop s) s.coops
  pub coop_names : IsDistinct bytes_eq (map coop_name s.coops)
  pub consecutive : AreConsecutive 0 (length s.agents) s.coops
  pub members : (a : AgentId) → a.0 < length s.agents → IsMember (coop_of s (agent_of s a).coop) a
  pub few_agents : length s.agents ≤ most_agents
  pub agents : All (IsAgent s) s.agents
  pub names : IsDistinct bytes_eq (mbox_names s)
  pub few_texts : length s.texts ≤ most_texts
  pub texts : All (λ t. is_text t ≡ true) s.texts
  pub texts_numbered : AreNumbered (texts_to s (length s.agents)) (length s.texts)
  pub each_text_once : IsDistinct bytes_eq s.texts
