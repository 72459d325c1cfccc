-- What the four passes leave of a scene's parts, apart from what is tried after them.
use Rattle.std.specs.Prelude.{◌≡◌, ℕ, suc, ◌<◌, ◌≤◌, ◌+◌, ◌++◌, ◌==◌, List, [], ◌∷◌, length, map, slice_index_or, bytes_eq, Bool, Option, Some, true}
use Rattle.std.specs.List.{All, IsDistinct, filter, filter_map}
use Rattle.so_code.specs.Bodies.{bodies_in}
use Rattle.so_code.specs.Shape.{IsCode, agent_bodies}
use Rattle.so_ids.specs.declared.DispId.{DispId}
use Rattle.so_lists.specs.Lists.{head, AreNumbered}
use Rattle.so_scene.specs.declared.parts.AgentDef.{AgentDef}
use Rattle.so_scene.specs.declared.parts.CoopDef.{CoopDef}
use Rattle.so_scene.specs.declared.parts.DispDef.{DispDef}
use Rattle.so_scene.specs.declared.parts.DispKind.{DispKind}
use Rattle.so_scene.specs.declared.parts.DispKind.TheVariants.{OneThread}
use Rattle.so_scene.specs.declared.parts.MessageDef.{MessageDef}
use Rattle.so_scene.specs.Lanes.{agent_number}
use Rattle.so_scene.specs.declared.parts.FilterDef.{FilterDef}
use Rattle.so_scene.specs.Parts.{message_name, agent_name, coop_name, disp_name, default_disp, no_coop}
use Rattle.so_scene.specs.Checked.{Named, NamesWithin, IsParent, AreConsecutive, IsMember, IsKind, IsDisp, IsGroup, HasNoLimit, has_handler, handlers, filter_ids, given, text_uses}
use Rattle.so_scene.specs.Words.{is_name, is_text}
use Rattle.so_scene.specs.Written.{IsNumber, HasParent, IsWrittenAmong, is_state_name, are_short, AreSafe}
use Rattle.so_state.specs.declared.choice.Row.{Row}
use Rattle.so_state.specs.Fault.{IsTree}
use Rattle.so_scene_build.specs.declared.build.Build.{Build}
use Rattle.so_scene_build.specs.declared.groups.Group.{Group}
use Rattle.so_scene_build.specs.Groups.{names_for}

-- a row among so many mboxes, messages and states, and a filter
pub record IsBuiltRow (mboxes messages states : ℕ) (row : Row) : Type 0 where
  pub mbox : row.mbox.0 < mboxes
  pub msg : row.msg.0 < messages
  pub state : row.state.0 ≤ states
  pub kind : IsKind states row.state row.kind
  pub safe : row.safe ≡ true → has_handler row.kind ≡ true

pub record IsBuiltFilter (mboxes messages : ℕ) (f : FilterDef) : Type 0 where
  pub mbox : f.mbox.0 < mboxes
  pub msg : f.msg.0 < messages
  pub field : f.field ≤ 3
  pub value : IsNumber f.value

-- what the acts of an agent may name
abbrev pub named_among : ℕ → ℕ → ℕ → ℕ → ℕ → List (Option (List ℕ)) → List (Option (List ℕ)) → Named
named_among mboxes messages texts coops states rows filters = record { mboxes = mboxes; messages = messages; texts = texts; coops = coops; states = states; rows = rows; filters = filters }

-- a cooperation among so many
pub record IsBuiltCoop (coops : ℕ) (c : CoopDef) : Type 0 where
  pub named : is_name c.name ≡ true
  pub parent : IsParent coops c.parent

-- an agent among so many mboxes, texts and cooperations, these messages, and dispatchers of these kinds with these groups
pub record IsBuiltAgent (mboxes : ℕ) (messages : List MessageDef) (texts coops : ℕ) (kinds : List DispKind) (groups : List Group) (a : AgentDef) : Type 0 where
  pub named : is_name a.name ≡ true
  pub disp : a.disp.0 < length kinds
  pub group : IsGroup (slice_index_or kinds a.disp.0 OneThread) (length (names_for a.disp groups)) a.group
  pub vars : length a.vars.0 ≡ 16
  pub numbers : All IsNumber a.vars.0
  pub tree : IsTree a.tree
  pub no_limits : All HasNoLimit a.tree
  pub state_names : length a.state_names ≡ length a.tree
  pub states_named : All (λ name. is_state_name name ≡ true) a.state_names
  pub initial : All HasParent a.tree
  pub each_state_once : IsDistinct bytes_eq a.state_names
  pub few_rows : length a.rows ≤ 128
  pub rows : All (IsBuiltRow mboxes (length messages) (length a.tree)) a.rows
  pub row_ids : length a.row_ids ≡ length a.rows
  pub rows_named : All (λ name. is_name name ≡ true) (given a.row_ids)
  pub each_row_id_once : IsDistinct bytes_eq (given a.row_ids)
  pub few_filters : length a.filters ≤ 32
  pub filters : All (IsBuiltFilter mboxes (length messages)) a.filters
  pub filters_named : All (λ name. is_name name ≡ true) (given (filter_ids a))
  pub each_filter_id_once : IsDistinct bytes_eq (given (filter_ids a))
  pub code : IsCode a.code
  pub bodies : bodies_in a.code ≡ agent_bodies (length a.tree) (handlers a.rows)
  pub parts : All (NamesWithin (named_among mboxes (length messages) texts coops (length a.tree) a.row_ids (filter_ids a))) a.code
  pub written : All (IsWrittenAmong messages) a.code
  pub short : are_short 0 a.code ≡ true
  pub safe : AreSafe a.rows a.code

abbrev pub mboxes_in : Build → ℕ
mboxes_in s = length s.agents + length s.names.mboxes

abbrev pub disp_kind : DispDef → DispKind
disp_kind d = d.kind

-- the groups that the agents of a dispatcher name, by agent
abbrev pub agent_group : AgentDef → Option ℕ
agent_group a = a.group

abbrev pub is_on : DispId → AgentDef → Bool
is_on d a = a.disp.0 == d.0

abbrev pub uses_on : DispId → List AgentDef → List ℕ
uses_on d agents = filter_map agent_group (filter (is_on d) agents)

-- the texts that agents log, in the order of their code
abbrev pub texts_of : List AgentDef → List ℕ
texts_of [] = []
texts_of (a ∷ agents) = text_uses a.code ++ texts_of agents

-- the groups of a dispatcher have names that differ, and are numbered as agents name them
pub record AreBuiltGroups (s : Build) (d : DispId) : Type 0 where
  pub named : All (λ name. is_name name ≡ true) (names_for d s.groups)
  pub each_once : IsDistinct bytes_eq (names_for d s.groups)
  pub numbered : AreNumbered (uses_on d s.agents) (length (names_for d s.groups))

-- each agent, from number n on, is one of its cooperation's
abbrev pub AreMembers : List CoopDef → ℕ → List AgentDef → Type 0
AreMembers coops n [] = Unit {0}
AreMembers coops n (a ∷ agents) = IsMember (slice_index_or coops a.coop.0 no_coop) (agent_number n) × AreMembers coops (suc n) agents

-- the cooperations have all agents, each those of its own
pub record AreCounted (coops : List CoopDef) (agents : List AgentDef) : Type 0 where
  pub consecutive : AreConsecutive 0 (length agents) coops
  pub members : AreMembers coops 0 agents

pub record IsBuilt (s : Build) : Type 0 where
  pub few_messages : length s.messages ≤ 256
  pub messages_named : All (λ name. is_name name ≡ true) (map message_name s.messages)
  pub message_names : IsDistinct bytes_eq (map message_name s.messages)
  pub few_mboxes : length s.names.mboxes ≤ 256
  pub mboxes : All (λ name. is_name name ≡ true) s.names.mboxes
  pub default : head s.dispatchers ≡ Some default_disp
  pub few_dispatchers : length s.dispatchers ≤ 64
  pub dispatchers : All IsDisp s.dispatchers
  pub dispatcher_names : IsDistinct bytes_eq (map disp_name s.dispatchers)
  pub groups : length s.agents ≤ 4096 → (d : DispId) → AreBuiltGroups s d
  pub few_coops : length s.coops ≤ 1024
  pub coops : All (IsBuiltCoop (length s.coops)) s.coops
  pub coop_names : IsDistinct bytes_eq (map coop_name s.coops)
  pub counted : length s.agents ≤ 4096 → AreCounted s.coops s.agents
  pub agents : All (IsBuiltAgent (mboxes_in s) s.messages (length s.texts) (length s.coops) (map disp_kind s.dispatchers) s.groups) s.agents
  pub names : IsDistinct bytes_eq (map agent_name s.agents ++ s.names.mboxes)
  pub texts : All (λ t. is_text t ≡ true) s.texts
  pub texts_numbered : length s.texts ≤ 4096 → AreNumbered (texts_of s.agents) (length s.texts)
