-- What a value stands for, or what is wrong with it.
use Rattle.std.specs.Prelude.{◌≡◌, ℕ, ◌-◌, ℤ, pos, negsuc, List, [], ◌∷◌, codes, Bool, false, ◌==◌, ◌&&◌, nat_lt, nat_le, if◌then◌else◌, Option, Some, None, option_map, option_and_then, Result, Ok, Err, bytes_eq}
use denote.Bor.{Bor}
use Rattle.serde_json.specs.Data.{Num, Data}
use Rattle.serde_json.specs.Find.{as_bool, as_number, as_i64, as_str, get}
use Rattle.so_code.specs.declared.instr.Cmp.{Cmp}
use Rattle.so_code.specs.declared.instr.Cmp.TheVariants as cmp
use Rattle.so_code.specs.declared.instr.Operand.{Operand}
use Rattle.so_code.specs.declared.instr.Operand.TheVariants as operand
use Rattle.so_code.specs.declared.instr.Dest.{Dest}
use Rattle.so_code.specs.declared.instr.Dest.TheVariants as dest
use Rattle.so_scene.specs.declared.parts.DispKind.{DispKind}
use Rattle.so_scene.specs.declared.parts.DispKind.TheVariants as disp
use Rattle.so_scene.specs.declared.parts.Fifo.{Fifo}
use Rattle.so_scene.specs.declared.parts.Fifo.TheVariants as fifo
use Rattle.so_scene.specs.Words.{is_name, is_text}
use Rattle.so_state.specs.declared.states.History.{History}
use Rattle.so_state.specs.declared.states.History.TheVariants as history
use Rattle.so_scene_fields.specs.declared.values.Trouble.{Trouble}
use Rattle.so_scene_fields.specs.declared.values.Trouble.TheVariants.{WrongShape, OutOfRange}

-- the value, or this trouble where there is none
abbrev pub ◌else◌ : {A : Type 0} → Option A → Trouble → Result A Trouble
(Some x) else t = Ok x
None else t = Err t

-- the first that there is
abbrev pub ◌or◌ : {A : Type 0} → Option A → Option A → Option A
(Some x) or o = Some x
None or o = o

infixl 10 ◌or◌
infixl 9 ◌else◌
abbrev pub trouble : {A : Type 0} → Result A Trouble → Option Trouble
trouble (Ok x) = None
trouble (Err t) = Some t

infixl 10 ◌then◌
abbrev pub ◌then◌ : {A B : Type 0} → Result A Trouble → (A → Result B Trouble) → Result B Trouble
(Ok x) then f = f x
(Err t) then f = Err t

-- what a value stands for, and this where there is none or something is wrong with it
abbrev pub ok_or : {A : Type 0} → A → Result A Trouble → A
ok_or x (Ok y) = y
ok_or x (Err t) = x

abbrev pub read_or : {A : Type 0} → A → (Data → Result A Trouble) → Option Data → A
read_or x f None = x
read_or x f (Some d) = ok_or x (f d)

-- ---- numbers

abbrev pub integer_in : Option Num → Result ℤ Trouble
integer_in None = Err WrongShape
integer_in (Some n) = as_i64 n else OutOfRange

-- an integer of 64 bits
abbrev pub integer_of : Data → Result ℤ Trouble
integer_of d = integer_in (as_number d)

abbrev pub natural_up_to : ℕ → ℤ → Result ℕ Trouble
natural_up_to limit (pos n) = if nat_le n limit then Ok n else Err OutOfRange
natural_up_to limit (negsuc n) = Err OutOfRange

-- 0 to the number of acts that follow
abbrev pub count_of : ℕ → Data → Result ℕ Trouble
count_of rest d = integer_of d then natural_up_to rest

abbrev pub from_low : ℕ → ℕ → Result ℕ Trouble
from_low low n = if nat_le low n then Ok n else Err OutOfRange

-- a number of a range
abbrev pub number_of : ℕ → ℕ → Data → Result ℕ Trouble
number_of low high d = integer_of d then natural_up_to high then from_low low

-- the value that a filter compares with
abbrev pub value_in : Data → ℤ
value_in d = read_or (pos 0) integer_of (get (codes "value") d)

-- ---- true and false

abbrev pub flag_of : Data → Result Bool Trouble
flag_of d = as_bool d else WrongShape

abbrev pub if_true : Bool → Result Bool Trouble
if_true b = if b then Ok b else Err WrongShape

-- true alone
abbrev pub only_true : Data → Result Bool Trouble
only_true d = flag_of d then if_true

-- the handler of a row is marked as thread-safe
abbrev pub is_safe : Data → Bool
is_safe d = read_or false flag_of (get (codes "safe") d)

-- ---- words

-- a string that stands for something
abbrev pub named : {A : Type 0} → (List ℕ → Option A) → Data → Result A Trouble
named f d = option_and_then f (as_str d) else WrongShape

abbrev pub checked : (List ℕ → Bool) → List ℕ → Option (List ℕ)
checked test text = if test text then Some text else None

abbrev pub name_of : Data → Result (List ℕ) Trouble
name_of = named (checked is_name)

abbrev pub text_of : Data → Result (List ℕ) Trouble
text_of = named (checked is_text)

-- ---- operands

abbrev pub is_digit : ℕ → Bool
is_digit b = nat_le 48 b && nat_le b 57

-- 0 to 19, with no 0 before another digit
abbrev pub small_number : List ℕ → Option ℕ
small_number [] = None
small_number (a ∷ []) = if is_digit a then Some (a - 48) else None
small_number (a ∷ b ∷ []) = if a == 49 && is_digit b then Some (b - 38) else None
small_number (a ∷ b ∷ c ∷ more) = None

-- a letter and a number below the limit
unfoldable pub numbered : ℕ → ℕ → List ℕ → Option ℕ
numbered letter limit [] = None
numbered letter limit (c ∷ digits) = if c == letter then option_and_then (λ n. if nat_lt n limit then Some n else None) (small_number digits) else None

-- `v0` to `v15`, `m0` to `m3`, `t0` to `t3`, `ans`
abbrev pub operand_named : List ℕ → Option Operand
operand_named text =
    option_map operand.Var (numbered 118 16 text)
    or option_map operand.Msg (numbered 109 4 text)
    or option_map operand.Temp (numbered 116 4 text)
    or (if bytes_eq text (codes "ans") then Some operand.Ans else None)

abbrev pub operand_or_number : Option Num → Data → Result Operand Trouble
operand_or_number None d = named operand_named d
operand_or_number (Some n) d = option_map operand.Num (as_i64 n) else OutOfRange

abbrev pub operand_of : Data → Result Operand Trouble
operand_of d = operand_or_number (as_number d) d

-- `v0` to `v15`, `t0` to `t3`
abbrev pub dest_named : List ℕ → Option Dest
dest_named text = option_map dest.Var (numbered 118 16 text) or option_map dest.Temp (numbered 116 4 text)

abbrev pub dest_of : Data → Result Dest Trouble
dest_of = named dest_named

abbrev pub cmp_named : List ℕ → Option Cmp
cmp_named text =
    if bytes_eq text (codes "==") then Some cmp.Eq else (
    if bytes_eq text (codes "!=") then Some cmp.Ne else (
    if bytes_eq text (codes "<") then Some cmp.Lt else (
    if bytes_eq text (codes "<=") then Some cmp.Le else (
    if bytes_eq text (codes ">") then Some cmp.Gt else (
    if bytes_eq text (codes ">=") then Some cmp.Ge else None)))))

abbrev pub cmp_of : Data → Result Cmp Trouble
cmp_of = named cmp_named

-- ---- the history of a state

abbrev pub history_named : List ℕ → Option History
history_named text =
    if bytes_eq text (codes "none") then Some history.None else (
    if bytes_eq text (codes "shallow") then Some history.Shallow else (
    if bytes_eq text (codes "deep") then Some history.Deep else None))

abbrev pub history_of : Data → Result History Trouble
history_of = named history_named

-- ---- dispatchers

abbrev pub disp_kind_named : List ℕ → Option DispKind
disp_kind_named text =
    if bytes_eq text (codes "one_thread") then Some disp.OneThread else (
    if bytes_eq text (codes "active_obj") then Some disp.ActiveObj else (
    if bytes_eq text (codes "active_group") then Some disp.ActiveGroup else (
    if bytes_eq text (codes "thread_pool") then Some disp.ThreadPool else (
    if bytes_eq text (codes "adv_thread_pool") then Some disp.AdvThreadPool else (
    if bytes_eq text (codes "strictly_ordered") then Some disp.StrictlyOrdered else (
    if bytes_eq text (codes "quoted_round_robin") then Some disp.QuotedRoundRobin else (
    if bytes_eq text (codes "one_per_prio") then Some disp.OnePerPrio else None)))))))

abbrev pub disp_kind_of : Data → Result DispKind Trouble
disp_kind_of = named disp_kind_named

abbrev pub fifo_named : List ℕ → Option Fifo
fifo_named text =
    if bytes_eq text (codes "cooperation") then Some fifo.Cooperation else (
    if bytes_eq text (codes "individual") then Some fifo.Individual else None)

abbrev pub fifo_of : Data → Result Fifo Trouble
fifo_of = named fifo_named

-- the kind of a dispatcher
abbrev pub disp_kind_in : Data → DispKind
disp_kind_in d = read_or disp.OneThread disp_kind_of (get (codes "kind") d)

-- how many events of a priority are taken in its turn
abbrev pub quote_of : Data → Result ℕ Trouble
quote_of = number_of 1 1000

-- ---- strings of an object

abbrev pub text_or_empty : Option (List ℕ) → List ℕ
text_or_empty None = []
text_or_empty (Some text) = text

-- the string of a field, no bytes where it has none
abbrev pub string_in : List ℕ → Data → List ℕ
string_in key d = text_or_empty (option_and_then as_str (get key d))

-- the name of an object, no bytes where it has none
abbrev pub name_in : Data → List ℕ
name_in d = text_or_empty (checked is_name (string_in (codes "name") d))

-- the name in a field, if it has one
abbrev pub name_at : List ℕ → Data → Option (List ℕ)
name_at key d = checked is_name (string_in key d)

-- the id of an object, if it has one
abbrev pub id_in : Data → Option (List ℕ)
id_in d = name_at (codes "id") d

-- the group of an agent, if it has one
abbrev pub group_in : Data → Option (List ℕ)
group_in d = name_at (codes "group") d

-- a text that was lent
abbrev pub Views : Result (Bor (List ℕ)) Trouble → Result (List ℕ) Trouble → Type 0
Views (Ok x) expected = expected ≡ Ok x.now
Views (Err t) expected = expected ≡ Err t
