-- Acts as instructions, one for each, and texts by number in the order of their first appearance. A part that an earlier
-- pass refuses stands as 0 here, and an act that one refuses as an instruction that does nothing.
use Rattle.std.specs.Prelude.{ℕ, ◌+◌, ◌-◌, min, pos, List, [], ◌∷◌, ◌++◌, length, if◌then◌else◌, Option, Some, None, option_map, option_and_then, unwrap_or}
use Rattle.serde_json.specs.Data.{Data, Items, no_items, item}
use Rattle.serde_json.specs.Events.{items_len}
use Rattle.serde_json.specs.Find.{as_str, get_item}
use Rattle.so_ids.specs.declared.CoopId.{CoopId}
use Rattle.so_ids.specs.declared.FilterId.{FilterId}
use Rattle.so_ids.specs.declared.RowId.{RowId}
use Rattle.so_ids.specs.declared.StateId.{StateId}
use Rattle.so_ids.specs.declared.Target.TheVariants.{Mbox}
use Rattle.so_code.specs.declared.instr.Operand.{Operand}
use Rattle.so_code.specs.declared.instr.Operand.TheVariants as operand
use Rattle.so_code.specs.declared.instr.Dest.{Dest}
use Rattle.so_code.specs.declared.instr.Dest.TheVariants as dest
use Rattle.so_code.specs.declared.instr.Cmp.{Cmp}
use Rattle.so_code.specs.declared.instr.Cmp.TheVariants as cmp
use Rattle.so_code.specs.declared.instr.Args.{Args}
use Rattle.so_code.specs.declared.instr.Instr.{Instr}
use Rattle.so_code.specs.declared.instr.Instr.TheVariants as instr
use Rattle.so_scene.specs.Names.{number_in}
use Rattle.so_scene.specs.Words.{is_text}
use Rattle.so_scene_fields.specs.declared.act_table.Allowed.{Allowed}
use Rattle.so_scene_fields.specs.declared.act_table.Word.{Word}
use Rattle.so_scene_fields.specs.declared.act_table.Word.TheVariants as word
use Rattle.so_scene_passes.specs.declared.declare.Declared.{Declared}
use Rattle.so_scene_passes.specs.declared.scope.Scope.{Scope}
use Rattle.so_scene_fields.specs.declared.table.Space.TheVariants as space
use Rattle.so_scene_build.specs.declared.code_builder.CodeBuilder.{CodeBuilder}
use Rattle.so_scene_fields.specs.Values.{operand_of, dest_of, cmp_of, count_of, checked, read_or, text_or_empty}
use Rattle.so_scene_fields.specs.ActTable.{is_allowed}
use Rattle.so_scene_fields.specs.Acts.{act_parts}
use Rattle.so_scene_passes.specs.Scope.{number_with, state_number}
use Rattle.so_scene_passes.specs.Twice.{names_in}
use Rattle.so_scene_fields.specs.Visits.{narrow}

-- ---- the parts of an act

abbrev pub operand_at : ℕ → Items → Operand
operand_at i ds = read_or (operand.Num (pos 0)) operand_of (get_item i ds)

abbrev pub dest_at : ℕ → Items → Dest
dest_at i ds = read_or (dest.Var 0) dest_of (get_item i ds)

abbrev pub cmp_at : ℕ → Items → Cmp
cmp_at i ds = read_or cmp.Eq cmp_of (get_item i ds)

abbrev pub count_at : ℕ → ℕ → Items → ℕ
count_at rest i ds = narrow (read_or 0 (count_of rest) (get_item i ds))

abbrev pub string_at : ℕ → Items → List ℕ
string_at i ds = text_or_empty (option_and_then as_str (get_item i ds))

abbrev pub text_at : ℕ → Items → List ℕ
text_at i ds = text_or_empty (checked is_text (string_at i ds))

-- up to four operands from position i on
abbrev pub args_from : ℕ → Items → Args
args_from i ds = record { list = operand_at i ds ∷ operand_at (i + 1) ds ∷ operand_at (i + 2) ds ∷ operand_at (i + 3) ds ∷ []; used = min (items_len ds - i) 4 }

-- ---- an act

abbrev pub idle : Instr
idle = instr.Skip 0

-- a message to a mbox
abbrev pub send_instr : Option ℕ → Option ℕ → Args → Instr
send_instr (Some mbox) (Some msg) args = instr.Send (Mbox (record { 0 = narrow mbox })) (record { 0 = narrow msg }) args
send_instr (Some mbox) None args = idle
send_instr None msg args = idle

abbrev pub send_at : Declared → Items → Instr
send_at names ds = send_instr (number_in (names_in space.Mboxes names) (string_at 0 ds)) (number_in names.messages (string_at 1 ds)) (args_from 2 ds)

-- the state, the row, the filter and the cooperation that an act names
abbrev pub state_id : ℕ → StateId
state_id k = record { 0 = narrow k }

abbrev pub row_id : ℕ → RowId
row_id k = record { 0 = narrow k }

abbrev pub filter_number : ℕ → FilterId
filter_number k = record { 0 = narrow k }

abbrev pub coop_id : ℕ → CoopId
coop_id k = record { 0 = narrow k }

abbrev pub state_at : Scope → Items → Option StateId
state_at scope ds = option_map state_id (state_number scope (string_at 0 ds))

abbrev pub row_at : Scope → Items → Option RowId
row_at scope ds = option_map row_id (number_with scope.rows (string_at 0 ds))

abbrev pub filter_at : Scope → Items → Option FilterId
filter_at scope ds = option_map filter_number (number_with scope.filters (string_at 0 ds))

abbrev pub coop_at : Declared → Items → Option CoopId
coop_at names ds = option_map coop_id (number_in names.coops (string_at 0 ds))

abbrev pub or_idle : {A : Type 0} → (A → Instr) → Option A → Instr
or_idle f o = unwrap_or (option_map f o) idle

-- the instruction of an act that so many others follow, where it reads or computes
abbrev pub step_instr : ℕ → Word → Items → Instr
step_instr rest word.Set ds = instr.Set (dest_at 0 ds) (operand_at 1 ds)
step_instr rest word.Add ds = instr.Add (dest_at 0 ds) (operand_at 1 ds) (operand_at 2 ds)
step_instr rest word.Sub ds = instr.Sub (dest_at 0 ds) (operand_at 1 ds) (operand_at 2 ds)
step_instr rest word.Mul ds = instr.Mul (dest_at 0 ds) (operand_at 1 ds) (operand_at 2 ds)
step_instr rest word.If ds = instr.If (operand_at 0 ds) (cmp_at 1 ds) (operand_at 2 ds) (count_at rest 3 ds)
step_instr rest word.Skip ds = instr.Skip (count_at rest 0 ds)
step_instr rest word.Throw ds = instr.Throw (operand_at 0 ds)
step_instr rest other ds = idle

-- the instruction of an act that so many others follow, where a text of it has the number `text`
abbrev pub word_instr : Declared → Scope → ℕ → ℕ → Word → Items → Instr
word_instr names scope text rest word.Log ds = instr.Log (record { 0 = text }) (args_from 1 ds)
word_instr names scope text rest word.Send ds = send_at names ds
word_instr names scope text rest word.Switch ds = or_idle instr.Switch (state_at scope ds)
word_instr names scope text rest word.Subscribe ds = or_idle instr.Subscribe (row_at scope ds)
word_instr names scope text rest word.Unsubscribe ds = or_idle instr.Unsubscribe (row_at scope ds)
word_instr names scope text rest word.SetFilter ds = or_idle instr.SetFilter (filter_at scope ds)
word_instr names scope text rest word.DropFilter ds = or_idle instr.DropFilter (filter_at scope ds)
word_instr names scope text rest word.Register ds = or_idle instr.Register (coop_at names ds)
word_instr names scope text rest word.Deregister ds = or_idle instr.Deregister (coop_at names ds)
word_instr names scope text rest word.Stop ds = instr.Stop
word_instr names scope text rest other ds = step_instr rest other ds

-- ---- texts

abbrev pub texts_with : Option ℕ → List ℕ → List (List ℕ) → List (List ℕ)
texts_with (Some n) text texts = texts
texts_with None text texts = texts ++ text ∷ []

-- the number of a text: its own, or the next
abbrev pub number_or_next : Option ℕ → List (List ℕ) → ℕ
number_or_next (Some n) texts = narrow n
number_or_next None texts = narrow (length texts)

-- a text that isn't there yet goes to the end
abbrev pub with_text : List ℕ → CodeBuilder → CodeBuilder
with_text text w = record w { texts = texts_with (number_in w.texts text) text w.texts }

abbrev pub text_number : List ℕ → CodeBuilder → ℕ
text_number text w = number_or_next (number_in w.texts text) w.texts

-- ---- lists of acts

abbrev pub with_instr : Instr → CodeBuilder → CodeBuilder
with_instr i w = record w { code = w.code ++ i ∷ [] }

abbrev pub log_written : Declared → ℕ → CodeBuilder → List ℕ → Items → CodeBuilder
log_written names rest w text ds = with_instr (word_instr names w.scope (text_number text w) rest word.Log ds) (with_text text w)

abbrev pub word_written : Declared → ℕ → CodeBuilder → Word → Items → CodeBuilder
word_written names rest w word.Log ds = log_written names rest w (text_at 0 ds) ds
word_written names rest w other ds = with_instr (word_instr names w.scope 0 rest other ds) w

abbrev pub parts_written : Declared → ℕ → CodeBuilder → Option (Word × Items) → CodeBuilder
parts_written names rest w None = with_instr idle w
parts_written names rest w (Some p) = word_written names rest w p.0 p.1

-- an act that may stand there
abbrev pub if_allowed : Allowed → Option (Word × Items) → Option (Word × Items)
if_allowed allowed None = None
if_allowed allowed (Some p) = if is_allowed allowed p.0 p.1 then Some p else None

abbrev pub act_written : Declared → Allowed → ℕ → CodeBuilder → Data → CodeBuilder
act_written names allowed rest w d = parts_written names rest w (if_allowed allowed (act_parts d))

unfoldable pub acts_written : Declared → Allowed → CodeBuilder → Items → CodeBuilder
acts_written names allowed w no_items = w
acts_written names allowed w (item d ds) = acts_written names allowed (act_written names allowed (items_len ds) w d) ds
