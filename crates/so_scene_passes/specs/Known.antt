-- The third pass: each name and id that is used is declared, a signal carries no operands, and an agent has a group exactly
-- where its dispatcher wants one.
use Rattle.std.specs.Prelude.{ℕ, List, [], ◌∷◌, ◌++◌, codes, Bool, true, false, slice_index_or, option_map, is_some, if◌then◌else◌, Option, Some, None, Result, Ok}
use Rattle.serde_json.specs.Data.{Data, Items, no_items, item}
use Rattle.serde_json.specs.Find.{as_str, get}
use Rattle.so_scene.specs.Names.{has_name, number_in}
use Rattle.so_fault.specs.declared.fault.SceneFault.{SceneFault}
use Rattle.so_fault.specs.declared.fault.SceneFault.TheVariants as fault
use Rattle.so_scene.specs.declared.parts.DispKind.{DispKind}
use Rattle.so_scene.specs.declared.parts.DispKind.TheVariants.{OneThread, ActiveGroup}
use Rattle.so_fault.specs.declared.place.Field.TheVariants.{Group}
use Rattle.so_fault.specs.declared.place.PlaceStep.TheVariants.{Key}
use Rattle.so_scene_fields.specs.declared.act_table.Word.{Word}
use Rattle.so_scene_fields.specs.declared.act_table.Word.TheVariants as word
use Rattle.so_scene_fields.specs.declared.values.Trouble.{Trouble}
use Rattle.so_scene_fields.specs.declared.values.Trouble.TheVariants.{OutOfRange, UnknownName}
use Rattle.so_scene_passes.specs.declared.declare.Declared.{Declared}
use Rattle.so_scene_passes.specs.declared.known.Known.{Known}
use Rattle.so_scene_passes.specs.declared.scope.Scope.{Scope}
use Rattle.so_scene_fields.specs.declared.table.ObjectKind.{ObjectKind}
use Rattle.so_scene_fields.specs.declared.table.ObjectKind.TheVariants as object
use Rattle.so_scene_fields.specs.declared.table.Space.{Space}
use Rattle.so_scene_fields.specs.declared.table.Space.TheVariants as space
use Rattle.so_scene_fields.specs.declared.table.Form.{Form}
use Rattle.so_scene_fields.specs.declared.table.Form.TheVariants as form
use Rattle.so_scene_fields.specs.Values.{◌or◌}
use Rattle.so_scene_fields.specs.Acts.{act_parts}
use Rattle.so_scene_passes.specs.Twice.{names_in, kinds_in, disp_number_in}
use Rattle.so_scene_passes.specs.Scope.{number_with, scope_of, no_scope, all_states}
use Rattle.so_scene_passes.specs.Shape.{trouble_at, acts_from, unless_faulty}
use Rattle.so_scene_fields.specs.Visits.{Visit, enters, tries, leaves, Place, list_of}

-- a name that is none of these
abbrev pub absent_from : List (List ℕ) → Option (List ℕ) → Option Trouble
absent_from names None = None
absent_from names (Some name) = if has_name names name then None else Some UnknownName

abbrev pub name_trouble : Declared → Space → Option (List ℕ) → Option Trouble
name_trouble s space name = absent_from (names_in space s) name

abbrev pub signal_at : Declared → Option ℕ → Bool
signal_at s None = false
signal_at s (Some i) = slice_index_or s.signals i false

abbrev pub has_signal : Declared → Option (List ℕ) → Bool
has_signal s None = false
has_signal s (Some name) = signal_at s (number_in s.messages name)

-- operands given to a signal
abbrev pub signal_trouble : Declared → Option (List ℕ) → Items → Option Trouble
signal_trouble s name no_items = None
signal_trouble s name (item d ds) = if has_signal s name then Some OutOfRange else None

-- the target is the name of an agent or a named mbox; the fault of the target comes before that of the type
abbrev pub send_trouble : Declared → Items → Option Trouble
send_trouble s no_items = None
send_trouble s (item target no_items) = None
send_trouble s (item target (item message operands)) =
    name_trouble s space.Mboxes (as_str target)
    or name_trouble s space.Messages (as_str message)
    or signal_trouble s (as_str message) operands

abbrev pub id_trouble : List (Option (List ℕ)) → Option (List ℕ) → Option Trouble
id_trouble ids None = None
id_trouble ids (Some name) = if is_some (number_with ids name) then None else Some UnknownName

-- the first item is an id of these
abbrev pub first_id_trouble : List (Option (List ℕ)) → Items → Option Trouble
first_id_trouble ids no_items = None
first_id_trouble ids (item d ds) = id_trouble ids (as_str d)

-- the first item is the name of a state
abbrev pub first_state_trouble : Scope → Items → Option Trouble
first_state_trouble scope no_items = None
first_state_trouble scope (item d ds) = absent_from (all_states scope) (as_str d)

-- the first item is the name of a cooperation
abbrev pub first_coop_trouble : Declared → Items → Option Trouble
first_coop_trouble s no_items = None
first_coop_trouble s (item d ds) = name_trouble s space.Coops (as_str d)

abbrev pub word_unknown : Known → Word → Items → Option Trouble
word_unknown s word.Send ds = send_trouble s.names ds
word_unknown s word.Switch ds = first_state_trouble s.scope ds
word_unknown s word.Subscribe ds = first_id_trouble s.scope.rows ds
word_unknown s word.Unsubscribe ds = first_id_trouble s.scope.rows ds
word_unknown s word.SetFilter ds = first_id_trouble s.scope.filters ds
word_unknown s word.DropFilter ds = first_id_trouble s.scope.filters ds
word_unknown s word.Register ds = first_coop_trouble s.names ds
word_unknown s word.Deregister ds = first_coop_trouble s.names ds
word_unknown s other ds = None

abbrev pub parts_unknown : Known → Option (Word × Items) → Option Trouble
parts_unknown s None = None
parts_unknown s (Some p) = word_unknown s p.0 p.1

abbrev pub act_unknown : Known → Data → Option Trouble
act_unknown s d = parts_unknown s (act_parts d)

abbrev pub form_unknown : Known → Form → Place → Data → Option SceneFault
form_unknown s (form.NameIn space) place d = trouble_at place (name_trouble s.names space (as_str d))
form_unknown s form.DeclaredState place d = trouble_at place (absent_from s.scope.states (as_str d))
form_unknown s form.AnyState place d = trouble_at place (absent_from (all_states s.scope) (as_str d))
form_unknown s (form.Acts allowed) place d = acts_from (λ rest x. act_unknown s x) place 0 (list_of (Some d))
form_unknown s form.Handler place d = acts_from (λ rest x. act_unknown s x) place 0 (list_of (Some d))
form_unknown s other place d = None

abbrev pub field_unknown : Known → Form → Place → Option Data → Option SceneFault
field_unknown s form place None = None
field_unknown s form place (Some d) = form_unknown s form place d

-- a field of this form uses names
abbrev pub uses_names : Form → Bool
uses_names (form.NameIn space) = true
uses_names form.DeclaredState = true
uses_names form.AnyState = true
uses_names (form.Acts allowed) = true
uses_names form.Handler = true
uses_names other = false

-- ---- groups

-- Whether an agent may have a group, by the kind of its dispatcher. One that isn't declared is found next, at the field `disp`.
abbrev pub group_unfit : Option DispKind → Place → Bool → Option SceneFault
group_unfit None place given = None
group_unfit (Some ActiveGroup) place true = None
group_unfit (Some ActiveGroup) place false = Some (fault.Missing (place ++ Key Group ∷ []))
group_unfit (Some other) place true = Some (fault.WrongShape place)
group_unfit (Some other) place false = None

-- the kind of the dispatcher of this number
abbrev pub kind_at : Declared → ℕ → DispKind
kind_at s n = slice_index_or (kinds_in s) n OneThread

abbrev pub group_fault : Declared → Place → Data → Option SceneFault
group_fault s place d = group_unfit (option_map (kind_at s) (disp_number_in s d)) place (is_some (get (codes "group") d))

abbrev pub object_unknown : ObjectKind → Declared → Place → Data → Option SceneFault
object_unknown object.Agent s place d = group_fault s place d
object_unknown other s place d = None

-- ---- the pass

-- an agent names its own states and ids
abbrev pub entered : ObjectKind → Data → Known → Known
entered object.Agent d s = record s { scope = scope_of d }
entered other d s = s

abbrev pub knows : Declared → Known
knows names = record { names = names; scope = no_scope }

abbrev pub known_step : Known → Visit → Result Known SceneFault
known_step s (enters kind place d) = unless_faulty (entered kind d s) (object_unknown kind s.names place d)
known_step s (tries rule place d found) = unless_faulty s (field_unknown s rule.form place found)
known_step s (leaves kind place d) = Ok s
