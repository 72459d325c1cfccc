-- A walk over the fields of a document, in the order of the table, lists in their order.
use Rattle.std.specs.Prelude.{◌≡◌, ℕ, zero, suc, ◌-◌, ◌^◌, min, List, [], ◌∷◌, ◌++◌, Option, Some, None, Result, Ok, Err}
use Rattle.serde_json.specs.Data.{Data, null, boolean, number, string, array, object, Items, no_items, item}
use Rattle.serde_json.specs.Find.{get}
use Rattle.so_fault.specs.Faults.{spelling}
use Rattle.so_fault.specs.declared.place.PlaceStep.{PlaceStep}
use Rattle.so_fault.specs.declared.place.PlaceStep.TheVariants.{Key, At}
use Rattle.so_fault.specs.declared.fault.SceneFault.{SceneFault}
use Rattle.so_fault.specs.declared.fault.SceneRefusal.{SceneRefusal}
use Rattle.so_fault.specs.declared.fault.SceneRefusal.TheVariants.{Fault, NoMemory}
use Rattle.so_scene_fields.specs.declared.table.ObjectKind.{ObjectKind}
use Rattle.so_scene_fields.specs.declared.table.ObjectKind.TheVariants as object_kind
use Rattle.so_scene_fields.specs.declared.table.Form.{Form}
use Rattle.so_scene_fields.specs.declared.table.Rule.{Rule}
use Rattle.so_scene_fields.specs.Table.{rules_of, objects_of}

abbrev pub Place : Type 0
Place = List PlaceStep

-- An object begins, a field of the object is tried, the object ends.
pub data Visit : Type 0 where
  enters : ObjectKind → Place → Data → Visit
  tries : Rule → Place → Data → Option Data → Visit
  leaves : ObjectKind → Place → Data → Visit

abbrev pub at_key : Place → Rule → Place
at_key place rule = place ++ Key rule.field ∷ []

-- a position as a step has it: one from 2 ^ 32 on counts as the last
abbrev pub narrow : ℕ → ℕ
narrow n = min n (2 ^ 32 - 1)

abbrev pub at_item : Place → ℕ → Place
at_item place i = place ++ At (narrow i) ∷ []

-- the items of a list, none of any other value
abbrev pub list_of : Option Data → Items
list_of None = no_items
list_of (Some null) = no_items
list_of (Some (boolean b)) = no_items
list_of (Some (number n)) = no_items
list_of (Some (string s)) = no_items
list_of (Some (array ds)) = ds
list_of (Some (object ms)) = no_items

-- the items as a list
abbrev pub listed : Items → List Data
listed no_items = []
listed (item d ds) = d ∷ listed ds

unfoldable pub items_from : (Place → Data → List Visit) → Place → ℕ → Items → List Visit
items_from inside place i no_items = []
items_from inside place i (item d ds) = inside (at_item place i) d ++ items_from inside place (suc i) ds

-- the visits inside a field
abbrev pub in_objects : (ObjectKind → Place → Data → List Visit) → Option ObjectKind → Place → Option Data → List Visit
in_objects inside None place found = []
in_objects inside (Some kind) place found = items_from (inside kind) place 0 (list_of found)

unfoldable pub field_visits : (ObjectKind → Place → Data → List Visit) → Rule → Place → Data → List Visit
field_visits inside rule place d =
    tries rule (at_key place rule) d (get (spelling rule.field) d)
    ∷ in_objects inside (objects_of rule.form) (at_key place rule) (get (spelling rule.field) d)

unfoldable pub fields_of : (ObjectKind → Place → Data → List Visit) → List Rule → Place → Data → List Visit
fields_of inside [] place d = []
fields_of inside (rule ∷ rules) place d = field_visits inside rule place d ++ fields_of inside rules place d

-- the visits of an object with so many levels of objects
unfoldable pub visits : ℕ → ObjectKind → Place → Data → List Visit
visits zero kind place d = []
visits (suc n) kind place d = enters kind place d ∷ (fields_of (visits n) (rules_of kind) place d ++ leaves kind place d ∷ [])

-- the visits of a scene: objects stand in it in four levels, the scene, its cooperations,
-- their agents, and the states, filters and rows of these
abbrev pub fields : Data → List Visit
fields d = visits 4 object_kind.Scene [] d

infixl 10 ◌>>=◌
abbrev pub ◌>>=◌ : {A B : Type 0} → Result A SceneFault → (A → Result B SceneFault) → Result B SceneFault
(Ok x) >>= f = f x
(Err e) >>= f = Err e

-- one step after another, up to the first fault
unfoldable pub run : {S : Type 0} → (S → Visit → Result S SceneFault) → S → List Visit → Result S SceneFault
run step s [] = Ok s
run step s (v ∷ vs) = step s v >>= λ t. run step t vs

-- a step that does nothing at fields of this form
abbrev pub Skips : {S : Type 0} → (S → Visit → Result S SceneFault) → Form → Type 0
Skips {S} step form = (s : S) (rule : Rule) (place : Place) (d : Data) (found : Option Data) → rule.form ≡ form → step s (tries rule place d found) ≡ Ok s

-- what a call returned and left is what is expected; that memory ran out is told only where `lack` holds
abbrev pub LeavesIf : {S : Type 0} → Type 0 → Result S SceneFault → Result (Unit {0}) SceneRefusal → S → Type 0
LeavesIf lack expected (Ok x) new = expected ≡ Ok new
LeavesIf lack expected (Err NoMemory) new = lack
LeavesIf lack expected (Err (Fault f)) new = expected ≡ Err f

-- the same, where memory may run out
abbrev pub Leaves : {S : Type 0} → Result S SceneFault → Result (Unit {0}) SceneRefusal → S → Type 0
Leaves expected result new = LeavesIf (Unit {0}) expected result new
