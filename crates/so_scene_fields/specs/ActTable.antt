-- The acts, what stands in each behind its word, and which may stand where.
use Rattle.std.specs.Prelude.{ℕ, List, [], ◌∷◌, codes, if◌then◌else◌, Bool, true, false, Option, Some, None, bytes_eq}
use Rattle.serde_json.specs.Data.{Data, Items}
use Rattle.serde_json.specs.Find.{get_item}
use Rattle.so_code.specs.declared.instr.Dest.TheVariants as dest
use Rattle.so_scene.specs.Written.{to_temporary}
use Rattle.so_scene_fields.specs.declared.act_table.Word.{Word}
use Rattle.so_scene_fields.specs.declared.act_table.Word.TheVariants as word
use Rattle.so_scene_fields.specs.declared.act_table.Allowed.{Allowed}
use Rattle.so_scene_fields.specs.declared.act_table.Allowed.TheVariants.{AnyAct, NoSwitch, Safe}
use Rattle.so_scene_fields.specs.declared.act_table.Arg.{Arg}
use Rattle.so_scene_fields.specs.declared.act_table.Arg.TheVariants.{Text, Name, Dest, Operand, Cmp, Count}
use Rattle.so_scene_fields.specs.Values.{dest_of, is_safe, read_or}

abbrev pub word_named : List ℕ → Option Word
word_named text =
    if bytes_eq text (codes "set") then Some word.Set else (
    if bytes_eq text (codes "add") then Some word.Add else (
    if bytes_eq text (codes "sub") then Some word.Sub else (
    if bytes_eq text (codes "mul") then Some word.Mul else (
    if bytes_eq text (codes "if") then Some word.If else (
    if bytes_eq text (codes "skip") then Some word.Skip else (
    if bytes_eq text (codes "throw") then Some word.Throw else (
    if bytes_eq text (codes "log") then Some word.Log else (
    if bytes_eq text (codes "send") then Some word.Send else (
    if bytes_eq text (codes "delayed") then Some word.Delayed else (
    if bytes_eq text (codes "timer") then Some word.Timer else (
    if bytes_eq text (codes "cancel") then Some word.Cancel else (
    if bytes_eq text (codes "switch") then Some word.Switch else (
    if bytes_eq text (codes "subscribe") then Some word.Subscribe else (
    if bytes_eq text (codes "unsubscribe") then Some word.Unsubscribe else (
    if bytes_eq text (codes "set_filter") then Some word.SetFilter else (
    if bytes_eq text (codes "drop_filter") then Some word.DropFilter else (
    if bytes_eq text (codes "register") then Some word.Register else (
    if bytes_eq text (codes "deregister") then Some word.Deregister else (
    if bytes_eq text (codes "stop") then Some word.Stop else (
    if bytes_eq text (codes "close") then Some word.Close else (
    if bytes_eq text (codes "receive") then Some word.Receive else None)))))))))))))))))))))

-- operands of a line or a message, which may be absent
abbrev pub four_operands : List Arg
four_operands = Operand ∷ Operand ∷ Operand ∷ Operand ∷ []

-- what stands behind the word of an act that is built
abbrev pub args_of : Word → Option (List Arg)
args_of word.Set = Some (Dest ∷ Operand ∷ [])
args_of word.Add = Some (Dest ∷ Operand ∷ Operand ∷ [])
args_of word.Sub = Some (Dest ∷ Operand ∷ Operand ∷ [])
args_of word.Mul = Some (Dest ∷ Operand ∷ Operand ∷ [])
args_of word.If = Some (Operand ∷ Cmp ∷ Operand ∷ Count ∷ [])
args_of word.Skip = Some (Count ∷ [])
args_of word.Throw = Some (Operand ∷ [])
args_of word.Log = Some (Text ∷ four_operands)
args_of word.Send = Some (Name ∷ Name ∷ four_operands)
args_of word.Delayed = None
args_of word.Timer = None
args_of word.Cancel = None
args_of word.Switch = Some (Name ∷ [])
args_of word.Subscribe = Some (Name ∷ [])
args_of word.Unsubscribe = Some (Name ∷ [])
args_of word.SetFilter = Some (Name ∷ [])
args_of word.DropFilter = Some (Name ∷ [])
args_of word.Register = Some (Name ∷ [])
args_of word.Deregister = Some (Name ∷ [])
args_of word.Stop = Some []
args_of word.Close = None
args_of word.Receive = None

-- how many of these must stand there: all but the operands of a line or a message
abbrev pub needed_of : Word → ℕ
needed_of word.Set = 2
needed_of word.Add = 3
needed_of word.Sub = 3
needed_of word.Mul = 3
needed_of word.If = 4
needed_of word.Skip = 1
needed_of word.Throw = 1
needed_of word.Log = 1
needed_of word.Send = 2
needed_of word.Switch = 1
needed_of word.Subscribe = 1
needed_of word.Unsubscribe = 1
needed_of word.SetFilter = 1
needed_of word.DropFilter = 1
needed_of word.Register = 1
needed_of word.Deregister = 1
needed_of other = 0

-- ---- what may stand where

-- the first item is a temporary
abbrev pub is_to_temporary : Items → Bool
is_to_temporary ds = to_temporary (read_or (dest.Var 0) dest_of (get_item 0 ds))

-- an act that changes nothing which its agent keeps: no variable, state, subscription, filter or timer
abbrev pub is_safe_act : Word → Items → Bool
is_safe_act word.Set ds = is_to_temporary ds
is_safe_act word.Add ds = is_to_temporary ds
is_safe_act word.Sub ds = is_to_temporary ds
is_safe_act word.Mul ds = is_to_temporary ds
is_safe_act word.Timer ds = false
is_safe_act word.Cancel ds = false
is_safe_act word.Switch ds = false
is_safe_act word.Subscribe ds = false
is_safe_act word.Unsubscribe ds = false
is_safe_act word.SetFilter ds = false
is_safe_act word.DropFilter ds = false
is_safe_act other ds = true

-- a state's enter and exit make no switch, and a safe handler holds only such acts
abbrev pub is_allowed : Allowed → Word → Items → Bool
is_allowed AnyAct w ds = true
is_allowed NoSwitch word.Switch ds = false
is_allowed NoSwitch other ds = true
is_allowed Safe w ds = is_safe_act w ds

-- which acts the handler of a row may hold
abbrev pub handler_acts : Data → Allowed
handler_acts row = if is_safe row then Safe else AnyAct
