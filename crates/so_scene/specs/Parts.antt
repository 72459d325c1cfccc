-- The parts of a scene by number.
use Rattle.std.proofs.Common.{zero-le}
use Rattle.std.specs.Prelude.{ℕ, ◌+◌, pos, List, [], ◌++◌, length, map, replicate, slice_index_or, true, false, codes, None}
use Rattle.so_lists.specs.Lists.{each_below}
use Rattle.so_ids.specs.declared.AgentId.{AgentId}
use Rattle.so_ids.specs.declared.CoopId.{CoopId}
use Rattle.so_ids.specs.declared.DispId.{DispId}
use Rattle.so_ids.specs.declared.MboxId.{MboxId}
use Rattle.so_ids.specs.declared.MsgId.{MsgId}
use Rattle.so_ids.specs.declared.Priority.{Priority}
use Rattle.so_ids.specs.declared.TextId.{TextId}
use Rattle.so_code.specs.declared.instr.Instr.{Instr}
use Rattle.so_scene.specs.declared.parts.MessageDef.{MessageDef}
use Rattle.so_scene.specs.declared.parts.CoopDef.{CoopDef}
use Rattle.so_scene.specs.declared.parts.DispDef.{DispDef}
use Rattle.so_scene.specs.declared.parts.DispKind.TheVariants.{OneThread}
use Rattle.so_scene.specs.declared.parts.Fifo.TheVariants.{Cooperation}
use Rattle.so_scene.specs.declared.parts.FilterDef.{FilterDef}
use Rattle.so_ids.specs.declared.Vars.{Vars}
use Rattle.so_state.specs.declared.states.State.{State}
use Rattle.so_state.specs.declared.choice.Row.{Row}
use Rattle.so_scene.specs.declared.parts.AgentDef.{AgentDef}
use Rattle.so_scene.specs.declared.parts.SceneParts.{SceneParts}

-- ---- parts by number

abbrev pub no_message : MessageDef
no_message = record { name = []; signal = false }

abbrev pub message_of : SceneParts → MsgId → MessageDef
message_of s m = slice_index_or s.messages m.0 no_message

abbrev pub no_agent : AgentDef
no_agent = record { name = []; coop = record { 0 = 0 }; disp = record { 0 = 0 }; group = None; priority = record { level = 0; in_range = zero-le }; vars = record { 0 = replicate 16 (pos 0) }; state_names = []; tree = []; rows = []; row_ids = []; filters = []; code = [] }

abbrev pub agent_of : SceneParts → AgentId → AgentDef
agent_of s a = slice_index_or s.agents a.0 no_agent

abbrev pub no_coop : CoopDef
no_coop = record { name = []; parent = None; at_start = true; first = record { 0 = 0 }; count = 0 }

abbrev pub coop_of : SceneParts → CoopId → CoopDef
coop_of s c = slice_index_or s.coops c.0 no_coop

-- the dispatcher `default`
abbrev pub default_disp : DispDef
default_disp = record { name = codes "default"; kind = OneThread; slots = 4096; threads = 4; fifo = Cooperation; quotes = replicate 8 20 }

abbrev pub disp_of : SceneParts → DispId → DispDef
disp_of s d = slice_index_or s.dispatchers d.0 default_disp

-- the names of a dispatcher's groups
abbrev pub groups_of : SceneParts → DispId → List (List ℕ)
groups_of s d = slice_index_or s.groups d.0 []

-- so many agents, from the first on
abbrev pub agents_from : AgentId → ℕ → List AgentId
agents_from first count = each_below (λ k. record { 0 = first.0 + k }) count

-- the agents of a cooperation, in order
abbrev pub agents_of : SceneParts → CoopId → List AgentId
agents_of s c = agents_from (coop_of s c).first (coop_of s c).count

-- the code of an agent
abbrev pub code_of : SceneParts → AgentId → List Instr
code_of s a = (agent_of s a).code

-- the priority of an agent's demands
abbrev pub priority_of : SceneParts → AgentId → Priority
priority_of s a = (agent_of s a).priority

-- the variables with which an agent begins, its subscriptions, its filters and its declared states
abbrev pub vars_of : SceneParts → AgentId → Vars
vars_of s a = (agent_of s a).vars

abbrev pub rows_of : SceneParts → AgentId → List Row
rows_of s a = (agent_of s a).rows

abbrev pub filters_of : SceneParts → AgentId → List FilterDef
filters_of s a = (agent_of s a).filters

abbrev pub states_of : SceneParts → AgentId → List State
states_of s a = (agent_of s a).tree

-- the bytes of a text
abbrev pub text_of : SceneParts → TextId → List ℕ
text_of s t = slice_index_or s.texts t.0 []

-- ---- names

-- the direct mbox of an agent has the agent's number, and the named mboxes follow
abbrev pub direct_mbox : AgentId → MboxId
direct_mbox a = record { 0 = a.0 }

abbrev pub message_name : MessageDef → List ℕ
message_name m = m.name

abbrev pub disp_name : DispDef → List ℕ
disp_name d = d.name

abbrev pub coop_name : CoopDef → List ℕ
coop_name c = c.name

abbrev pub agent_name : AgentDef → List ℕ
agent_name a = a.name

abbrev pub mbox_names : SceneParts → List (List ℕ)
mbox_names s = map agent_name s.agents ++ s.mboxes

-- how many mboxes there are
abbrev pub mboxes : SceneParts → ℕ
mboxes s = length s.agents + length s.mboxes

-- the name of a mbox, which of a direct one is its agent's
abbrev pub mbox_name : SceneParts → MboxId → List ℕ
mbox_name s mbox = slice_index_or (mbox_names s) mbox.0 []
