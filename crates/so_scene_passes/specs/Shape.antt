-- The first pass: the shape of each object and field.
use Rattle.std.specs.Prelude.{ℕ, suc, ◌+◌, ℤ, pos, negsuc, List, [], ◌∷◌, codes, Bool, true, false, not, ◌==◌, ◌&&◌, ◌||◌, nat_le, nat_lt, if◌then◌else◌, Option, Some, None, option_map, is_some, Result, Ok, Err, bytes_eq}
use Rattle.serde_json.specs.Data.{Num, Data, Items, no_items, item, Members, no_members, member}
use Rattle.serde_json.specs.Events.{items_len}
use Rattle.serde_json.specs.Find.{as_number, as_i64, as_str, as_array, as_object, get}
use Rattle.so_fault.specs.Faults.{spelling}
use Rattle.so_fault.specs.declared.place.Field.{Field}
use Rattle.so_fault.specs.declared.place.Field.TheVariants as field
use Rattle.so_fault.specs.declared.fault.SceneFault.{SceneFault}
use Rattle.so_fault.specs.declared.fault.SceneFault.TheVariants as fault
use Rattle.so_scene.specs.Checked.{is_pool, has_quotes}
use Rattle.so_scene_fields.specs.declared.act_table.Allowed.{Allowed}
use Rattle.so_scene_fields.specs.declared.table.ObjectKind.{ObjectKind}
use Rattle.so_scene_fields.specs.declared.table.ObjectKind.TheVariants as object
use Rattle.so_scene_fields.specs.declared.table.Form.{Form}
use Rattle.so_scene_fields.specs.declared.table.Form.TheVariants as form
use Rattle.so_scene_fields.specs.declared.table.Rule.{Rule}
use Rattle.so_scene_fields.specs.declared.values.Trouble.{Trouble}
use Rattle.so_scene_fields.specs.declared.values.Trouble.TheVariants.{WrongShape, OutOfRange, UnknownName, NotBuilt}
use Rattle.so_scene_passes.specs.declared.shape.ItemKind.{ItemKind}
use Rattle.so_scene_passes.specs.declared.shape.ItemKind.TheVariants as item_kind
use Rattle.so_scene_fields.specs.ActTable.{handler_acts}
use Rattle.so_scene_fields.specs.Table.{rules_of}
use Rattle.so_scene_fields.specs.Values.{◌or◌, trouble, name_of, integer_of, number_of, flag_of, only_true, cmp_of, history_of, disp_kind_of, disp_kind_in, fifo_of, quote_of, is_safe, read_or}
use Rattle.so_scene_fields.specs.Acts.{act_trouble}
use Rattle.so_scene_fields.specs.Visits.{Visit, enters, tries, leaves, Place, at_item}

abbrev pub placed : Place → Trouble → SceneFault
placed place WrongShape = fault.WrongShape place
placed place OutOfRange = fault.OutOfRange place
placed place UnknownName = fault.UnknownName place
placed place NotBuilt = fault.NotBuilt place

abbrev pub trouble_at : Place → Option Trouble → Option SceneFault
trouble_at place t = option_map (placed place) t

-- ---- the keys of an object

unfoldable pub is_known : List Rule → List ℕ → Bool
is_known [] key = false
is_known (rule ∷ rules) key = if bytes_eq (spelling rule.field) key then true else is_known rules key

-- some key isn't in the table
unfoldable pub has_unknown : List Rule → Members → Bool
has_unknown rules no_members = false
has_unknown rules (member key d ms) = if is_known rules key then has_unknown rules ms else true

abbrev pub unknown_in : List Rule → Option Members → Bool
unknown_in rules None = false
unknown_in rules (Some ms) = has_unknown rules ms

-- ---- the value of a field

abbrev pub is_one : ℤ → Bool
is_one (pos n) = n == 1
is_one (negsuc n) = false

abbrev pub version_in : Place → Option ℤ → Option SceneFault
version_in place None = Some (fault.OutOfRange place)
version_in place (Some z) = if is_one z then None else Some (fault.BadVersion place)

abbrev pub version_fault : Place → Option Num → Option SceneFault
version_fault place None = Some (fault.WrongShape place)
version_fault place (Some n) = version_in place (as_i64 n)

abbrev pub is_message_kind : List ℕ → Bool
is_message_kind text = bytes_eq text (codes "message") || bytes_eq text (codes "signal")

abbrev pub kind_trouble : Option (List ℕ) → Option Trouble
kind_trouble None = Some WrongShape
kind_trouble (Some text) = if is_message_kind text then None else Some WrongShape

-- a state isn't named `default`
abbrev pub state_name_trouble : Result (List ℕ) Trouble → Option Trouble
state_name_trouble (Ok name) = if bytes_eq name (codes "default") then Some WrongShape else None
state_name_trouble (Err t) = Some t

-- the first trouble of an item
unfoldable pub first_of : (Data → Option Trouble) → Items → Option Trouble
first_of f no_items = None
first_of f (item d ds) = f d or first_of f ds

abbrev pub is_within : Option ℕ → ℕ → Bool
is_within None n = true
is_within (Some limit) n = nat_le n limit

-- a list: that it is one, its limit, then its items in order
abbrev pub list_trouble : Option ℕ → (Data → Option Trouble) → Option Items → Option Trouble
list_trouble limit f None = Some WrongShape
list_trouble limit f (Some ds) = if is_within limit (items_len ds) then first_of f ds else Some OutOfRange

-- a list of a fixed length: that it is one, its length, then its items in order
abbrev pub fixed_trouble : ℕ → (Data → Option Trouble) → Option Items → Option Trouble
fixed_trouble count f None = Some WrongShape
fixed_trouble count f (Some ds) = if items_len ds == count then first_of f ds else Some WrongShape

abbrev pub number_trouble : Data → Option Trouble
number_trouble d = trouble (integer_of d)

abbrev pub quote_trouble : Data → Option Trouble
quote_trouble d = trouble (quote_of d)

abbrev pub name_trouble : Data → Option Trouble
name_trouble d = trouble (name_of d)

abbrev pub object_trouble : Data → Option Trouble
object_trouble d = if is_some (as_object d) then None else Some WrongShape

-- of an item of this kind
abbrev pub item_trouble : ItemKind → (Data → Option Trouble)
item_trouble item_kind.Number = number_trouble
item_trouble item_kind.Name = name_trouble
item_trouble item_kind.Quote = quote_trouble
item_trouble item_kind.Object = object_trouble

-- the first trouble of an act, which is a fault at the act
unfoldable pub acts_from : (ℕ → Data → Option Trouble) → Place → ℕ → Items → Option SceneFault
acts_from f place i no_items = None
acts_from f place i (item d ds) = trouble_at (at_item place i) (f (items_len ds) d) or acts_from f place (suc i) ds

abbrev pub acts_fault : Allowed → Place → Option Items → Option SceneFault
acts_fault allowed place None = Some (fault.WrongShape place)
acts_fault allowed place (Some ds) = if nat_le (items_len ds) 256 then acts_from (act_trouble allowed) place 0 ds else Some (fault.OutOfRange place)

-- of a field of this object
abbrev pub form_fault : Form → Place → Data → Data → Option SceneFault
form_fault form.One place owner d = version_fault place (as_number d)
form_fault form.Name place owner d = trouble_at place (trouble (name_of d))
form_fault (form.NameIn s) place owner d = trouble_at place (trouble (name_of d))
form_fault form.StateName place owner d = trouble_at place (state_name_trouble (name_of d))
form_fault form.DeclaredState place owner d = trouble_at place (trouble (name_of d))
form_fault form.AnyState place owner d = trouble_at place (trouble (name_of d))
form_fault form.History place owner d = trouble_at place (trouble (history_of d))
form_fault (form.Mboxes limit) place owner d = trouble_at place (list_trouble (Some limit) name_trouble (as_array d))
form_fault form.MessageKind place owner d = trouble_at place (kind_trouble (as_str d))
form_fault form.DispKind place owner d = trouble_at place (trouble (disp_kind_of d))
form_fault form.Fifo place owner d = trouble_at place (trouble (fifo_of d))
form_fault form.Quotes place owner d = trouble_at place (fixed_trouble 8 quote_trouble (as_array d))
form_fault form.Flag place owner d = trouble_at place (trouble (flag_of d))
form_fault form.OnlyTrue place owner d = trouble_at place (trouble (only_true d))
form_fault form.Cmp place owner d = trouble_at place (trouble (cmp_of d))
form_fault form.AnyNumber place owner d = trouble_at place (number_trouble d)
form_fault (form.Number low high) place owner d = trouble_at place (trouble (number_of low high d))
form_fault (form.Numbers limit) place owner d = trouble_at place (list_trouble (Some limit) number_trouble (as_array d))
form_fault (form.Objects kind limit) place owner d = trouble_at place (list_trouble limit object_trouble (as_array d))
form_fault (form.Acts allowed) place owner d = acts_fault allowed place (as_array d)
form_fault form.Handler place row d = acts_fault (handler_acts row) place (as_array d)
form_fault form.Later place owner d = Some (fault.NotBuilt place)

abbrev pub field_fault : Rule → Place → Data → Option Data → Option SceneFault
field_fault rule place owner None = if rule.required then Some (fault.Missing place) else None
field_fault rule place owner (Some d) = form_fault rule.form place owner d

-- ---- what the fields of an object need of each other

abbrev pub has : Field → Data → ℕ
has f d = if is_some (get (spelling f) d) then 1 else 0

-- the effects of a row
abbrev pub effects : Data → ℕ
effects d = has field.Do d + has field.Switch d + has field.Transfer d + has field.Suppress d

-- a dead-letter row has do, and no state
abbrev pub is_dead_breach : Data → Bool
is_dead_breach d = nat_lt (has field.Do d) (has field.Dead d) || nat_lt 1 (has field.Dead d + has field.State d)

-- a safe row has do
abbrev pub is_safe_breach : Data → Bool
is_safe_breach d = is_safe d && (has field.Do d == 0)

-- a row has exactly one effect
abbrev pub is_row_breach : Data → Bool
is_row_breach d = not (effects d == 1) || (is_dead_breach d || is_safe_breach d)

abbrev pub is_initial : Data → Bool
is_initial d = read_or false flag_of (get (codes "initial") d)

-- threads and fifo are a pool's
abbrev pub is_pool_breach : Data → Bool
is_pool_breach d = not (is_pool (disp_kind_in d)) && nat_lt 0 (has field.Threads d + has field.Fifo d)

-- quotes are those of quoted_round_robin
abbrev pub is_quotes_breach : Data → Bool
is_quotes_breach d = not (has_quotes (disp_kind_in d)) && (has field.Quotes d == 1)

abbrev pub is_disp_breach : Data → Bool
is_disp_breach d = is_pool_breach d || is_quotes_breach d

-- an initial state has a parent
abbrev pub is_breach : ObjectKind → Data → Bool
is_breach object.Dispatcher d = is_disp_breach d
is_breach object.Row d = is_row_breach d
is_breach object.State d = is_initial d && (has field.Parent d == 0)
is_breach other d = false

-- ---- the pass

abbrev pub shape_fault : Visit → Option SceneFault
shape_fault (enters kind place d) = if unknown_in (rules_of kind) (as_object d) then Some (fault.WrongShape place) else None
shape_fault (tries rule place d found) = field_fault rule place d found
shape_fault (leaves kind place d) = if is_breach kind d then Some (fault.WrongShape place) else None

abbrev pub unless_faulty : {S : Type 0} → S → Option SceneFault → Result S SceneFault
unless_faulty s None = Ok s
unless_faulty s (Some f) = Err f

abbrev pub shape_step : {S : Type 0} → S → Visit → Result S SceneFault
shape_step s v = unless_faulty s (shape_fault v)
