-- The second pass: in each name space each name is declared once. What it leaves is the numbering of the names.
use Rattle.std.specs.Prelude.{ℕ, codes, List, [], ◌∷◌, ◌++◌, Bool, true, false, if◌then◌else◌, Option, Some, None, option_and_then, Result, Ok, Err, bytes_eq}
use Rattle.serde_json.specs.Data.{Data, Items, no_items, item}
use Rattle.serde_json.specs.Find.{as_str, get}
use Rattle.so_scene.specs.Names.{number_in, has_name}
use Rattle.so_scene.specs.declared.parts.DispKind.{DispKind}
use Rattle.so_scene.specs.declared.parts.DispKind.TheVariants.{OneThread}
use Rattle.so_fault.specs.declared.place.PlaceStep.TheVariants.{Key}
use Rattle.so_fault.specs.declared.fault.SceneFault.{SceneFault}
use Rattle.so_fault.specs.declared.fault.SceneFault.TheVariants as fault
use Rattle.so_scene_fields.specs.declared.table.ObjectKind.{ObjectKind}
use Rattle.so_scene_fields.specs.declared.table.ObjectKind.TheVariants as object
use Rattle.so_scene_fields.specs.declared.table.Space.{Space}
use Rattle.so_scene_fields.specs.declared.table.Space.TheVariants as space
use Rattle.so_scene_fields.specs.declared.table.Form.{Form}
use Rattle.so_scene_fields.specs.declared.table.Form.TheVariants as form
use Rattle.so_scene_fields.specs.declared.values.Trouble.{Trouble}
use Rattle.so_scene_passes.specs.declared.declare.Declared.{Declared}
use Rattle.so_scene_fields.specs.Table.{space_of, key_of}
use Rattle.so_scene_fields.specs.Values.{name_of, name_in, id_in, disp_kind_in}
use Rattle.so_scene_fields.specs.Visits.{Visit, enters, tries, leaves, Place, list_of}

abbrev pub is_signal_word : Option (List ℕ) → Bool
is_signal_word None = false
is_signal_word (Some text) = bytes_eq text (codes "signal")

abbrev pub is_signal_kind : Option Data → Bool
is_signal_kind None = false
is_signal_kind (Some d) = is_signal_word (as_str d)

-- a message is a signal where its `kind` says so
abbrev pub is_signal : Data → Bool
is_signal d = is_signal_kind (get (codes "kind") d)

abbrev pub no_names : Declared
no_names = record { messages = []; dispatchers = []; kinds = []; coops = []; agents = []; mboxes = []; states = []; rows = []; filters = []; signals = [] }

-- The names of a space, by number. The dispatcher `default` comes before those that are declared. A direct mbox has its agent's
-- name, and the named mboxes follow. States, rows and filters are those of the agent that is visited.
abbrev pub names_in : Space → Declared → List (List ℕ)
names_in space.Messages s = s.messages
names_in space.Dispatchers s = codes "default" ∷ s.dispatchers
names_in space.Coops s = s.coops
names_in space.Mboxes s = s.agents ++ s.mboxes
names_in space.States s = s.states
names_in space.Rows s = s.rows
names_in space.Filters s = s.filters

-- the name that an object declares goes to the end
abbrev pub with_name : Space → List ℕ → Declared → Declared
with_name space.Messages name s = record s { messages = s.messages ++ name ∷ [] }
with_name space.Dispatchers name s = record s { dispatchers = s.dispatchers ++ name ∷ [] }
with_name space.Coops name s = record s { coops = s.coops ++ name ∷ [] }
with_name space.Mboxes name s = record s { agents = s.agents ++ name ∷ [] }
with_name space.States name s = record s { states = s.states ++ name ∷ [] }
with_name space.Rows name s = record s { rows = s.rows ++ name ∷ [] }
with_name space.Filters name s = record s { filters = s.filters ++ name ∷ [] }

-- ---- the dispatcher of an agent, by number

abbrev pub disp_number : Declared → Option (List ℕ) → Option ℕ
disp_number s None = Some 0
disp_number s (Some name) = number_in (names_in space.Dispatchers s) name

abbrev pub disp_number_in : Declared → Data → Option ℕ
disp_number_in s d = disp_number s (option_and_then as_str (get (codes "disp") d))

-- the kind of each dispatcher
abbrev pub kinds_in : Declared → List DispKind
kinds_in s = OneThread ∷ s.kinds

-- ---- named mboxes

-- a repeated name is the same mbox
abbrev pub with_mbox : List ℕ → Declared → Declared
with_mbox name s = if has_name (names_in space.Mboxes s) name then s else record s { mboxes = s.mboxes ++ name ∷ [] }

abbrev pub with_mbox_read : Result (List ℕ) Trouble → Declared → Declared
with_mbox_read (Ok name) s = with_mbox name s
with_mbox_read (Err t) s = s

unfoldable pub with_mboxes : Items → Declared → Declared
with_mboxes no_items s = s
with_mboxes (item d ds) s = with_mboxes ds (with_mbox_read (name_of d) s)

-- a field of this form names mboxes
abbrev pub names_mboxes : Form → Bool
names_mboxes (form.Mboxes limit) = true
names_mboxes other = false

abbrev pub with_field : Form → Option Data → Declared → Declared
with_field (form.Mboxes limit) found s = with_mboxes (list_of found) s
with_field other found s = s

-- ---- objects

-- of each message, whether it is a signal; of each dispatcher its kind; and each agent has state names, row ids and filter ids of its own
abbrev pub entering : ObjectKind → Data → Declared → Declared
entering object.Message d s = record s { signals = s.signals ++ is_signal d ∷ [] }
entering object.Dispatcher d s = record s { kinds = s.kinds ++ disp_kind_in d ∷ [] }
entering object.Agent d s = record s { states = []; rows = []; filters = [] }
entering other d s = s

-- the name that an object declares in a space; an id may be absent
abbrev pub name_for : Space → Data → Option (List ℕ)
name_for space.Rows d = id_in d
name_for space.Filters d = id_in d
name_for other d = Some (name_in d)

-- the fault is at the field that declares the name
abbrev pub declared_name : Place → Space → Option (List ℕ) → Declared → Result Declared SceneFault
declared_name place space None s = Ok s
declared_name place space (Some name) s = if has_name (names_in space s) name then Err (fault.Twice (place ++ Key (key_of space) ∷ [])) else Ok (with_name space name s)

abbrev pub declared : Place → Option Space → Data → Declared → Result Declared SceneFault
declared place None d s = Ok s
declared place (Some space) d s = declared_name place space (name_for space d) s

abbrev pub twice_step : Declared → Visit → Result Declared SceneFault
twice_step s (enters kind place d) = declared place (space_of kind) d (entering kind d s)
twice_step s (tries rule place d found) = Ok (with_field rule.form found s)
twice_step s (leaves kind place d) = Ok s
