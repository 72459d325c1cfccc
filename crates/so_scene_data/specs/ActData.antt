-- Acts as data: a list of a word and what stands behind it, with names in place of numbers.
use Rattle.std.specs.Prelude.{ℕ, pos, List, [], ◌∷◌, map, take, codes, slice_index_or, ◌==◌, Option, None, option_map, if◌then◌else◌}
use Rattle.std.specs.Str.{is_utf8}
use Rattle.serde_json.specs.Data.{Data, number, string, array, Items, no_items, item}
use Rattle.serde_json.specs.Find.{of_integer}
use Rattle.serde_json.specs.View.{items_of}
use Rattle.so_ids.specs.declared.CoopId.{CoopId}
use Rattle.so_ids.specs.declared.DispId.{DispId}
use Rattle.so_ids.specs.declared.MsgId.{MsgId}
use Rattle.so_ids.specs.declared.StateId.{StateId}
use Rattle.so_ids.specs.declared.Target.{Target}
use Rattle.so_ids.specs.declared.Target.TheVariants.{Mbox, Chain}
use Rattle.so_code.specs.declared.instr.Args.{Args}
use Rattle.so_code.specs.declared.instr.Cmp.{Cmp}
use Rattle.so_code.specs.declared.instr.Cmp.TheVariants as cmp
use Rattle.so_code.specs.declared.instr.Dest.{Dest}
use Rattle.so_code.specs.declared.instr.Dest.TheVariants as dest
use Rattle.so_code.specs.declared.instr.Instr.{Instr}
use Rattle.so_code.specs.declared.instr.Instr.TheVariants as instr
use Rattle.so_code.specs.declared.instr.Operand.{Operand}
use Rattle.so_code.specs.declared.instr.Operand.TheVariants as operand
use Rattle.so_scene.specs.declared.parts.AgentDef.{AgentDef}
use Rattle.so_scene.specs.declared.parts.SceneParts.{SceneParts}
use Rattle.so_scene.specs.Parts.{message_of, mbox_name, text_of, coop_of, disp_of, groups_of}
use Rattle.so_scene.specs.Checked.{filter_ids}
use Rattle.so_scene_fields.specs.Values.{text_or_empty}

-- ---- names

-- these bytes, none where they are no UTF-8. Names and texts are ASCII
abbrev pub shown : List ℕ → List ℕ
shown bytes = if is_utf8 bytes then bytes else []

abbrev pub text_data : List ℕ → Data
text_data bytes = string (shown bytes)

abbrev pub message_text : SceneParts → MsgId → List ℕ
message_text s m = (message_of s m).name

-- the name of a state by its number
abbrev pub state_text : AgentDef → StateId → List ℕ
state_text a s = slice_index_or (codes "default" ∷ a.state_names) s.0 []

-- the id of a row or a filter by its number
abbrev pub id_text : List (Option (List ℕ)) → ℕ → List ℕ
id_text ids k = text_or_empty (slice_index_or ids k None)

abbrev pub disp_text : SceneParts → DispId → List ℕ
disp_text s d = (disp_of s d).name

abbrev pub coop_text : SceneParts → CoopId → List ℕ
coop_text s c = (coop_of s c).name

-- the name of a dispatcher's group by its number
abbrev pub group_at : SceneParts → DispId → ℕ → List ℕ
group_at s d g = slice_index_or (groups_of s d) g []

-- the name of an agent's group, if it has one
abbrev pub group_text : SceneParts → AgentDef → Option (List ℕ)
group_text s a = option_map (group_at s a.disp) a.group

-- ---- operands

abbrev pub var_word : ℕ → List ℕ
var_word k =
    if k == 0 then codes "v0" else (
    if k == 1 then codes "v1" else (
    if k == 2 then codes "v2" else (
    if k == 3 then codes "v3" else (
    if k == 4 then codes "v4" else (
    if k == 5 then codes "v5" else (
    if k == 6 then codes "v6" else (
    if k == 7 then codes "v7" else (
    if k == 8 then codes "v8" else (
    if k == 9 then codes "v9" else (
    if k == 10 then codes "v10" else (
    if k == 11 then codes "v11" else (
    if k == 12 then codes "v12" else (
    if k == 13 then codes "v13" else (
    if k == 14 then codes "v14" else (
    if k == 15 then codes "v15" else [])))))))))))))))

abbrev pub field_word : ℕ → List ℕ
field_word k =
    if k == 0 then codes "m0" else (
    if k == 1 then codes "m1" else (
    if k == 2 then codes "m2" else (
    if k == 3 then codes "m3" else [])))

abbrev pub temp_word : ℕ → List ℕ
temp_word k =
    if k == 0 then codes "t0" else (
    if k == 1 then codes "t1" else (
    if k == 2 then codes "t2" else (
    if k == 3 then codes "t3" else [])))

abbrev pub operand_data : Operand → Data
operand_data (operand.Num z) = number (of_integer z)
operand_data (operand.Var k) = string (var_word k)
operand_data (operand.Msg k) = string (field_word k)
operand_data (operand.Temp k) = string (temp_word k)
operand_data operand.Ans = string (codes "ans")

abbrev pub dest_data : Dest → Data
dest_data (dest.Var k) = string (var_word k)
dest_data (dest.Temp k) = string (temp_word k)

abbrev pub cmp_word : Cmp → List ℕ
cmp_word cmp.Eq = codes "=="
cmp_word cmp.Ne = codes "!="
cmp_word cmp.Lt = codes "<"
cmp_word cmp.Le = codes "<="
cmp_word cmp.Gt = codes ">"
cmp_word cmp.Ge = codes ">="

abbrev pub cmp_data : Cmp → Data
cmp_data c = string (cmp_word c)

abbrev pub count_data : ℕ → Data
count_data n = number (of_integer (pos n))

-- the operands that are used
abbrev pub args_data : Args → Items
args_data args = items_of (map operand_data (take args.used args.list))

-- ---- acts

abbrev pub act_of : List ℕ → Items → Data
act_of word rest = array (item (string word) rest)

abbrev pub act_one : List ℕ → Data → Data
act_one word a = act_of word (item a no_items)

abbrev pub act_two : List ℕ → Data → Data → Data
act_two word a b = act_of word (item a (item b no_items))

abbrev pub act_three : List ℕ → Data → Data → Data → Data
act_three word a b c = act_of word (item a (item b (item c no_items)))

abbrev pub if_data : Operand → Cmp → Operand → ℕ → Data
if_data a c b n = act_of (codes "if") (item (operand_data a) (item (cmp_data c) (item (operand_data b) (item (count_data n) no_items))))

-- where a delivery goes: chains come in no scene yet
abbrev pub target_text : SceneParts → Target → List ℕ
target_text s (Mbox mbox) = mbox_name s mbox
target_text s (Chain chain) = []

-- An act. Instructions that don't stand here come in no body of a scene yet.
abbrev pub act_data : SceneParts → AgentDef → Instr → Data
act_data s a (instr.Set to x) = act_two (codes "set") (dest_data to) (operand_data x)
act_data s a (instr.Add to x y) = act_three (codes "add") (dest_data to) (operand_data x) (operand_data y)
act_data s a (instr.Sub to x y) = act_three (codes "sub") (dest_data to) (operand_data x) (operand_data y)
act_data s a (instr.Mul to x y) = act_three (codes "mul") (dest_data to) (operand_data x) (operand_data y)
act_data s a (instr.If x c y n) = if_data x c y n
act_data s a (instr.Skip n) = act_one (codes "skip") (count_data n)
act_data s a (instr.Throw x) = act_one (codes "throw") (operand_data x)
act_data s a (instr.Log text args) = act_of (codes "log") (item (text_data (text_of s text)) (args_data args))
act_data s a (instr.Send target msg args) = act_of (codes "send") (item (text_data (target_text s target)) (item (text_data (message_text s msg)) (args_data args)))
act_data s a (instr.Switch to) = act_one (codes "switch") (text_data (state_text a to))
act_data s a (instr.Subscribe row) = act_one (codes "subscribe") (text_data (id_text a.row_ids row.0))
act_data s a (instr.Unsubscribe row) = act_one (codes "unsubscribe") (text_data (id_text a.row_ids row.0))
act_data s a (instr.SetFilter f) = act_one (codes "set_filter") (text_data (id_text (filter_ids a) f.0))
act_data s a (instr.DropFilter f) = act_one (codes "drop_filter") (text_data (id_text (filter_ids a) f.0))
act_data s a (instr.Register coop) = act_one (codes "register") (text_data (coop_text s coop))
act_data s a (instr.Deregister coop) = act_one (codes "deregister") (text_data (coop_text s coop))
act_data s a instr.Stop = act_of (codes "stop") no_items
act_data s a other = array no_items

abbrev pub acts_data : SceneParts → AgentDef → List Instr → Data
acts_data s a acts = array (items_of (map (act_data s a) acts))
