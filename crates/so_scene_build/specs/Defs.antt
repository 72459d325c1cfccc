-- The parts of a scene that one value stands for. A part that an earlier pass refuses stands as 0 here.
use Rattle.std.specs.Prelude.{ℕ, ℤ, pos, List, map, codes, if◌then◌else◌, Bool, Option, Some, None, option_and_then, is_some, true, false, min}
use Rattle.std.proofs.Math.Nat.{min-le_right}
use Rattle.std.specs.List.{range_with_len}
use Rattle.serde_json.specs.Data.{Data, Items}
use Rattle.serde_json.specs.Find.{as_str, get, get_item}
use Rattle.so_ids.specs.declared.CoopId.{CoopId}
use Rattle.so_ids.specs.declared.DispId.{DispId}
use Rattle.so_ids.specs.declared.MboxId.{MboxId}
use Rattle.so_ids.specs.declared.MsgId.{MsgId}
use Rattle.so_ids.specs.declared.Priority.{Priority}
use Rattle.so_ids.specs.declared.StateId.{StateId}
use Rattle.so_ids.specs.declared.Vars.{Vars}
use Rattle.so_code.specs.declared.instr.Cmp.{Cmp}
use Rattle.so_code.specs.declared.instr.Cmp.TheVariants as cmp
use Rattle.so_scene.specs.declared.parts.MessageDef.{MessageDef}
use Rattle.so_scene.specs.declared.parts.CoopDef.{CoopDef}
use Rattle.so_scene.specs.declared.parts.DispDef.{DispDef}
use Rattle.so_scene.specs.declared.parts.Fifo.{Fifo}
use Rattle.so_scene.specs.declared.parts.Fifo.TheVariants.{Cooperation}
use Rattle.so_scene.specs.declared.parts.FilterDef.{FilterDef}
use Rattle.so_state.specs.declared.choice.Row.{Row}
use Rattle.so_state.specs.declared.choice.RowKind.{RowKind}
use Rattle.so_state.specs.declared.choice.RowKind.TheVariants.{Run, Switch, Transfer, Suppress, Dead}
use Rattle.so_state.specs.declared.states.History.{History}
use Rattle.so_state.specs.declared.states.History.TheVariants.{None as NoHistory}
use Rattle.so_state.specs.declared.states.State.{State}
use Rattle.so_scene.specs.Names.{number_in}
use Rattle.so_scene_fields.specs.declared.table.Space.{Space}
use Rattle.so_scene_fields.specs.declared.table.Space.TheVariants as space
use Rattle.so_scene_passes.specs.declared.declare.Declared.{Declared}
use Rattle.so_scene_passes.specs.declared.scope.Scope.{Scope}
use Rattle.so_scene_fields.specs.Values.{integer_of, number_of, flag_of, cmp_of, history_of, fifo_of, quote_of, disp_kind_in, is_safe, read_or, string_in, name_in, id_in, value_in}
use Rattle.so_scene_passes.specs.Twice.{is_signal, names_in, disp_number_in}
use Rattle.so_scene_passes.specs.Scope.{state_number}
use Rattle.so_scene_fields.specs.Visits.{narrow, list_of, listed}

-- ---- a message, and what an agent begins with

abbrev pub message_of : Data → MessageDef
message_of d = record { name = name_in d; signal = is_signal d }

-- variable k: 0 where the list has none
abbrev pub var_at : ℕ → Items → ℤ
var_at k ds = read_or (pos 0) integer_of (get_item k ds)

abbrev pub vars_in : Items → List ℤ
vars_in ds = map (λ k. var_at k ds) (range_with_len 0 16)

abbrev pub vars_of : Data → Vars
vars_of d = record { 0 = vars_in (list_of (get (codes "vars") d)) }

abbrev pub narrow_or_zero : Option ℕ → ℕ
narrow_or_zero None = 0
narrow_or_zero (Some n) = narrow n

-- the number of the name in a field
abbrev pub number_named : Declared → Space → List ℕ → Data → ℕ
number_named names space key d = narrow_or_zero (number_in (names_in space names) (string_in key d))

abbrev pub msg_in : Declared → Data → MsgId
msg_in names d = record { 0 = number_named names space.Messages (codes "msg") d }

abbrev pub mbox_in : Declared → Data → MboxId
mbox_in names d = record { 0 = number_named names space.Mboxes (codes "mbox") d }

-- ---- dispatchers

-- how many agents may be bound to it at one time
abbrev pub slots_in : Data → ℕ
slots_in d = read_or 4096 (number_of 1 4096) (get (codes "slots") d)

-- how many threads a pool has, and which of its agents share a queue
abbrev pub threads_in : Data → ℕ
threads_in d = read_or 4 (number_of 1 64) (get (codes "threads") d)

abbrev pub fifo_in : Data → Fifo
fifo_in d = read_or Cooperation fifo_of (get (codes "fifo") d)

-- the quotes of the eight priorities, p0 first
abbrev pub quote_at : ℕ → Items → ℕ
quote_at k ds = read_or 20 quote_of (get_item k ds)

abbrev pub quotes_in : Items → List ℕ
quotes_in ds = map (λ k. quote_at k ds) (range_with_len 0 8)

abbrev pub disp_of : Data → DispDef
disp_of d = record {
  name = name_in d;
  kind = disp_kind_in d;
  slots = slots_in d;
  threads = threads_in d;
  fifo = fifo_in d;
  quotes = quotes_in (list_of (get (codes "quotes") d));
}

-- the dispatcher of an agent
abbrev pub disp_in : Declared → Data → DispId
disp_in names d = record { 0 = narrow_or_zero (disp_number_in names d) }

-- the priority of an agent, 0 where none is given
abbrev pub level_in : Data → ℕ
level_in d = read_or 0 (number_of 0 7) (get (codes "priority") d)

-- a level above 7 counts as 7
abbrev pub priority_in : Data → Priority
priority_in d = record { level = min (level_in d) 7; in_range = min-le_right (level_in d) 7 }

-- ---- cooperations

-- the parent, if one is named
abbrev pub parent_coop : Declared → Data → Option CoopId
parent_coop names d = if is_some (get (codes "parent") d) then Some (record { 0 = number_named names space.Coops (codes "parent") d }) else None

-- a cooperation that follows so many agents, without agents of its own
abbrev pub coop_of : ℕ → Declared → Data → CoopDef
coop_of agents names d = record {
  name = name_in d;
  parent = parent_coop names d;
  at_start = read_or true flag_of (get (codes "at_start") d);
  first = record { 0 = narrow agents };
  count = 0;
}

-- ---- states

-- the state that a field names: `default` where it names none
abbrev pub state_named : Scope → Option (List ℕ) → ℕ
state_named scope None = 0
state_named scope (Some name) = narrow_or_zero (state_number scope name)

abbrev pub state_in : Scope → List ℕ → Data → StateId
state_in scope key d = record { 0 = state_named scope (option_and_then as_str (get key d)) }

abbrev pub parent_in : Scope → Data → Option StateId
parent_in scope d = if is_some (get (codes "parent") d) then Some (state_in scope (codes "parent") d) else None

abbrev pub history_in : Data → History
history_in d = read_or NoHistory history_of (get (codes "history") d)

abbrev pub state_of : Scope → Data → State
state_of scope d = record {
  parent = parent_in scope d;
  initial = read_or false flag_of (get (codes "initial") d);
  history = history_in d;
  limit = None;
}

-- the states of an agent
abbrev pub states_of : Scope → Items → List State
states_of scope ds = map (state_of scope) (listed ds)

-- ---- rows and filters

-- the mbox of a row of the agent of a number: its own where none is named
abbrev pub row_mbox : ℕ → Declared → Data → MboxId
row_mbox a names d = if is_some (get (codes "mbox") d) then mbox_in names d else record { 0 = narrow a }

-- a row with a handler, which is one for dead letters or not
abbrev pub handler_kind : Bool → RowKind
handler_kind false = Run
handler_kind true = Dead

-- what a row does
abbrev pub kind_of : Scope → Data → RowKind
kind_of scope d =
    if is_some (get (codes "do") d) then handler_kind (read_or false flag_of (get (codes "dead") d)) else (
    if is_some (get (codes "switch") d) then Switch (state_in scope (codes "switch") d) else (
    if is_some (get (codes "transfer") d) then Transfer (state_in scope (codes "transfer") d) else Suppress))

-- a row of the agent of a number
abbrev pub row_of : ℕ → Declared → Scope → Data → Row
row_of a names scope d = record {
  mbox = row_mbox a names d;
  msg = msg_in names d;
  state = state_in scope (codes "state") d;
  kind = kind_of scope d;
  safe = is_safe d;
  active = read_or true flag_of (get (codes "active") d);
}

abbrev pub rows_of : ℕ → Declared → Scope → Items → List Row
rows_of a names scope ds = map (row_of a names scope) (listed ds)

-- the field of a message that a filter tests, how, and with what value
abbrev pub field_in : Data → ℕ
field_in d = read_or 0 (number_of 0 3) (get (codes "field") d)

abbrev pub cmp_in : Data → Cmp
cmp_in d = read_or cmp.Eq cmp_of (get (codes "cmp") d)

abbrev pub filter_of : Declared → Data → FilterDef
filter_of names d = record {
  id = id_in d;
  mbox = mbox_in names d;
  msg = msg_in names d;
  field = field_in d;
  cmp = cmp_in d;
  value = value_in d;
  active = read_or true flag_of (get (codes "active") d);
}

abbrev pub filters_of : Declared → Items → List FilterDef
filters_of names ds = map (filter_of names) (listed ds)
