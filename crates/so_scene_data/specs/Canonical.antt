-- A scene as data: each field of the table that is built, its keys in order, an optional one without a value left out.
use Rattle.std.specs.Prelude.{ℕ, ℤ, List, map, take, drop, codes, Bool, true, false, Option, Some, None, option_map, if◌then◌else◌}
use Rattle.serde_json.specs.Data.{Data, boolean, number, string, array, object, Members, no_members, member}
use Rattle.serde_json.specs.Find.{of_integer}
use Rattle.serde_json.specs.View.{items_of}
use Rattle.so_ids.specs.declared.StateId.{StateId}
use Rattle.so_code.specs.declared.instr.Instr.{Instr}
use Rattle.so_state.specs.declared.choice.RowKind.{RowKind}
use Rattle.so_state.specs.declared.choice.RowKind.TheVariants.{Run, Switch, Transfer, Suppress, Dead}
use Rattle.so_state.specs.declared.states.History.{History}
use Rattle.so_state.specs.declared.states.History.TheVariants as history
use Rattle.so_scene.specs.declared.parts.AgentDef.{AgentDef}
use Rattle.so_scene.specs.declared.parts.CoopDef.{CoopDef}
use Rattle.so_scene.specs.declared.parts.DispDef.{DispDef}
use Rattle.so_scene.specs.declared.parts.DispKind.{DispKind}
use Rattle.so_scene.specs.declared.parts.DispKind.TheVariants.{OneThread, ActiveObj, ActiveGroup, ThreadPool, AdvThreadPool, StrictlyOrdered, QuotedRoundRobin, OnePerPrio}
use Rattle.so_scene.specs.declared.parts.Fifo.{Fifo}
use Rattle.so_scene.specs.declared.parts.Fifo.TheVariants.{Cooperation, Individual}
use Rattle.so_scene.specs.declared.parts.FilterDef.{FilterDef}
use Rattle.so_scene.specs.declared.parts.MessageDef.{MessageDef}
use Rattle.so_scene.specs.declared.parts.SceneParts.{SceneParts}
use Rattle.so_scene.specs.Checked.{is_pool, has_quotes}
use Rattle.so_scene.specs.Parts.{mbox_name}
use Rattle.so_scene_data.specs.Sources.{StateSource, RowSource, start_acts, finish_acts, states_of, rows_of}
use Rattle.so_scene_data.specs.ActData.{text_data, message_text, state_text, coop_text, disp_text, group_text, cmp_data, count_data, acts_data}

-- a field that is left out where it has no value
abbrev pub given : List ℕ → Option Data → Members → Members
given key None ms = ms
given key (Some d) ms = member key d ms

abbrev pub list_data : {X : Type 0} → (X → Data) → List X → Data
list_data shown xs = array (items_of (map shown xs))

abbrev pub number_data : ℤ → Data
number_data z = number (of_integer z)

-- ---- messages

abbrev pub kind_word : Bool → List ℕ
kind_word true = codes "signal"
kind_word false = codes "message"

abbrev pub message_data : MessageDef → Data
message_data m = object (member (codes "kind") (string (kind_word m.signal)) (member (codes "name") (text_data m.name) no_members))

-- ---- dispatchers: fifo and threads are a pool's, and quotes are those of quoted_round_robin

abbrev pub disp_kind_word : DispKind → List ℕ
disp_kind_word OneThread = codes "one_thread"
disp_kind_word ActiveObj = codes "active_obj"
disp_kind_word ActiveGroup = codes "active_group"
disp_kind_word ThreadPool = codes "thread_pool"
disp_kind_word AdvThreadPool = codes "adv_thread_pool"
disp_kind_word StrictlyOrdered = codes "strictly_ordered"
disp_kind_word QuotedRoundRobin = codes "quoted_round_robin"
disp_kind_word OnePerPrio = codes "one_per_prio"

abbrev pub fifo_word : Fifo → List ℕ
fifo_word Cooperation = codes "cooperation"
fifo_word Individual = codes "individual"

-- a field of pools only
abbrev pub of_pool : DispKind → Data → Option Data
of_pool kind d = if is_pool kind then Some d else None

-- a field of quoted_round_robin only
abbrev pub of_quoted : DispKind → Data → Option Data
of_quoted kind d = if has_quotes kind then Some d else None

abbrev pub disp_data : DispDef → Data
disp_data d = object
    (given (codes "fifo") (of_pool d.kind (string (fifo_word d.fifo)))
    (member (codes "kind") (string (disp_kind_word d.kind))
    (member (codes "name") (text_data d.name)
    (given (codes "quotes") (of_quoted d.kind (list_data count_data d.quotes))
    (member (codes "slots") (count_data d.slots)
    (given (codes "threads") (of_pool d.kind (count_data d.threads)) no_members))))))

-- all but the first, which is `default` and not declared
abbrev pub declared : SceneParts → List DispDef
declared s = drop 1 s.dispatchers

-- ---- states

abbrev pub history_word : History → List ℕ
history_word history.None = codes "none"
history_word history.Shallow = codes "shallow"
history_word history.Deep = codes "deep"

abbrev pub state_data : SceneParts → AgentDef → StateSource → Data
state_data s a x = object
    (member (codes "enter") (acts_data s a x.enter)
    (member (codes "exit") (acts_data s a x.exit)
    (member (codes "history") (string (history_word x.state.history))
    (member (codes "initial") (boolean x.state.initial)
    (member (codes "name") (text_data x.name)
    (given (codes "parent") (option_map (λ p. text_data (state_text a p)) x.state.parent) no_members))))))

-- ---- filters

abbrev pub filter_data : SceneParts → FilterDef → Data
filter_data s f = object
    (member (codes "active") (boolean f.active)
    (member (codes "cmp") (cmp_data f.cmp)
    (member (codes "field") (count_data f.field)
    (given (codes "id") (option_map text_data f.id)
    (member (codes "mbox") (text_data (mbox_name s f.mbox))
    (member (codes "msg") (text_data (message_text s f.msg))
    (member (codes "value") (number_data f.value) no_members)))))))

-- ---- rows: one of do, switch, transfer and suppress, and no state with dead

abbrev pub dead_data : RowKind → Option Data
dead_data Dead = Some (boolean true)
dead_data other = None

abbrev pub do_data : SceneParts → AgentDef → List Instr → RowKind → Option Data
do_data s a acts Run = Some (acts_data s a acts)
do_data s a acts Dead = Some (acts_data s a acts)
do_data s a acts other = None

abbrev pub row_state_data : AgentDef → StateId → RowKind → Option Data
row_state_data a s Dead = None
row_state_data a s other = Some (text_data (state_text a s))

abbrev pub suppress_data : RowKind → Option Data
suppress_data Suppress = Some (boolean true)
suppress_data other = None

abbrev pub switch_data : AgentDef → RowKind → Option Data
switch_data a (Switch to) = Some (text_data (state_text a to))
switch_data a other = None

abbrev pub transfer_data : AgentDef → RowKind → Option Data
transfer_data a (Transfer to) = Some (text_data (state_text a to))
transfer_data a other = None

abbrev pub row_data : SceneParts → AgentDef → RowSource → Data
row_data s a x = object
    (member (codes "active") (boolean x.row.active)
    (given (codes "dead") (dead_data x.row.kind)
    (given (codes "do") (do_data s a x.acts x.row.kind)
    (given (codes "id") (option_map text_data x.id)
    (member (codes "mbox") (text_data (mbox_name s x.row.mbox))
    (member (codes "msg") (text_data (message_text s x.row.msg))
    (member (codes "safe") (boolean x.row.safe)
    (given (codes "state") (row_state_data a x.row.state x.row.kind)
    (given (codes "suppress") (suppress_data x.row.kind)
    (given (codes "switch") (switch_data a x.row.kind)
    (given (codes "transfer") (transfer_data a x.row.kind) no_members)))))))))))

-- ---- agents

abbrev pub agent_data : SceneParts → AgentDef → Data
agent_data s a = object
    (member (codes "disp") (text_data (disp_text s a.disp))
    (member (codes "filters") (list_data (filter_data s) a.filters)
    (member (codes "finish") (acts_data s a (finish_acts a))
    (given (codes "group") (option_map text_data (group_text s a))
    (member (codes "name") (text_data a.name)
    (member (codes "on") (list_data (row_data s a) (rows_of a))
    (member (codes "priority") (count_data a.priority.level)
    (member (codes "start") (acts_data s a (start_acts a))
    (member (codes "states") (list_data (state_data s a) (states_of a))
    (member (codes "vars") (list_data number_data a.vars.0) no_members))))))))))

-- ---- cooperations and the scene

-- the agents of a cooperation: so many, from the first on
abbrev pub agents_of : SceneParts → CoopDef → List AgentDef
agents_of s c = take c.count (drop c.first.0 s.agents)

abbrev pub coop_data : SceneParts → CoopDef → Data
coop_data s c = object
    (member (codes "agents") (list_data (agent_data s) (agents_of s c))
    (member (codes "at_start") (boolean c.at_start)
    (member (codes "name") (text_data c.name)
    (given (codes "parent") (option_map (λ p. text_data (coop_text s p)) c.parent) no_members))))

abbrev pub scene_data : SceneParts → Data
scene_data s = object
    (member (codes "autoshutdown") (boolean s.autoshutdown)
    (member (codes "coops") (list_data (coop_data s) s.coops)
    (member (codes "dispatchers") (list_data disp_data (declared s))
    (member (codes "mboxes") (list_data text_data s.mboxes)
    (member (codes "messages") (list_data message_data s.messages)
    (member (codes "version") (count_data 1) no_members))))))
