-- A pass over an object, field by field, and over the items of a list.
use Rattle.std.proofs.Common.{◌≡◌, ℕ, suc, List, [], ◌∷◌, length, map, Option, Some, None, Result, Ok, refl, ap, ◌∙◌}
use Rattle.std.specs.List.{AllByRecursion}
use Rattle.serde_json.specs.Data.{Data, Items, item, no_items}
use Rattle.serde_json.specs.Events.{items_len}
use Rattle.serde_json.specs.Find.{get}
use Rattle.serde_json.specs.View.{items_of}
use Rattle.so_fault.specs.Faults.{spelling}
use Rattle.so_fault.specs.declared.fault.SceneFault.{SceneFault}
use Rattle.so_scene_fields.specs.declared.table.ObjectKind.{ObjectKind}
use Rattle.so_scene_fields.specs.declared.table.Rule.{Rule}
use Rattle.so_scene_fields.specs.declared.values.Trouble.{Trouble}
use Rattle.so_scene_fields.specs.Table.{rules_of, objects_of}
use Rattle.so_scene_passes.specs.Shape.{first_of, acts_from}
use Rattle.so_scene_fields.specs.Visits.{Visit, enters, tries, leaves, list_of, listed, at_key, Place, visits, fields_of, field_visits, items_from, run, at_item}
use Rattle.so_scene_fields.proofs.Runs.{goes_on, goes_on_at, run-one}

abbrev pub ok : {S : Type 0} → S → Result S SceneFault
ok x = Ok x

pub object_run : {S : Type 0} (step : S → Visit → Result S SceneFault) (s t u v : S) (n : ℕ) (kind : ObjectKind) (place : Place) (d : Data)
    → step s (enters kind place d) ≡ Ok t → run step t (fields_of (visits n) (rules_of kind) place d) ≡ Ok u → step u (leaves kind place d) ≡ Ok v → run step s (visits (suc n) kind place d) ≡ Ok v
unfolding visits
object_run step s t u v n kind place d a b c = goes_on_at step s t _ _ a ∙ goes_on step t u _ _ b ∙ run-one step u _ ∙ c

pub field_run : {S : Type 0} (step : S → Visit → Result S SceneFault) (s t u : S) (inside : ObjectKind → Place → Data → List Visit) (rule : Rule) (rules : List Rule) (place : Place) (d : Data)
    → run step s (field_visits inside rule place d) ≡ Ok t → run step t (fields_of inside rules place d) ≡ Ok u → run step s (fields_of inside (rule ∷ rules) place d) ≡ Ok u
unfolding fields_of
field_run step s t u inside rule rules place d a b = goes_on step s t _ _ a ∙ b

pub fields_none : {S : Type 0} (step : S → Visit → Result S SceneFault) (s : S) (inside : ObjectKind → Place → Data → List Visit) (place : Place) (d : Data) → run step s (fields_of inside [] place d) ≡ Ok s
unfolding fields_of run
fields_none step s inside place d = refl

pub plain_field : {S : Type 0} (step : S → Visit → Result S SceneFault) (s t : S) (inside : ObjectKind → Place → Data → List Visit) (rule : Rule) (place : Place) (d : Data)
    → objects_of rule.form ≡ None → step s (tries rule (at_key place rule) d (get (spelling rule.field) d)) ≡ Ok t → run step s (field_visits inside rule place d) ≡ Ok t
unfolding field_visits
plain_field step s t inside rule place d o a = rw o (run-one step s _ ∙ a)

pub list_field : {S : Type 0} (step : S → Visit → Result S SceneFault) (s t u : S) (inside : ObjectKind → Place → Data → List Visit) (rule : Rule) (kind : ObjectKind) (place : Place) (d : Data)
    → objects_of rule.form ≡ Some kind → step s (tries rule (at_key place rule) d (get (spelling rule.field) d)) ≡ Ok t
    → run step t (items_from (inside kind) (at_key place rule) 0 (list_of (get (spelling rule.field) d))) ≡ Ok u → run step s (field_visits inside rule place d) ≡ Ok u
unfolding field_visits
list_field step s t u inside rule kind place d o a b = rw o (goes_on_at step s t _ _ a ∙ b)

-- the same, with what is found
pub plain_found : {S : Type 0} (step : S → Visit → Result S SceneFault) (s t : S) (inside : ObjectKind → Place → Data → List Visit) (rule : Rule) (found : Option Data) (place : Place) (d : Data)
    → objects_of rule.form ≡ None → get (spelling rule.field) d ≡ found → step s (tries rule (at_key place rule) d found) ≡ Ok t → run step s (field_visits inside rule place d) ≡ Ok t
plain_found step s t inside rule found place d o e a = plain_field step s t inside rule place d o (ap (λ (x : Option Data). step s (tries rule (at_key place rule) d x)) e ∙ a)

pub list_found : {S : Type 0} (step : S → Visit → Result S SceneFault) (s t u : S) (inside : ObjectKind → Place → Data → List Visit) (rule : Rule) (kind : ObjectKind) (found : Option Data) (place : Place) (d : Data)
    → objects_of rule.form ≡ Some kind → get (spelling rule.field) d ≡ found → step s (tries rule (at_key place rule) d found) ≡ Ok t
    → run step t (items_from (inside kind) (at_key place rule) 0 (list_of found)) ≡ Ok u → run step s (field_visits inside rule place d) ≡ Ok u
list_found step s t u inside rule kind found place d o e a b =
    list_field step s t u inside rule kind place d o (ap (λ (x : Option Data). step s (tries rule (at_key place rule) d x)) e ∙ a) (ap (λ (x : Option Data). run step t (items_from (inside kind) (at_key place rule) 0 (list_of x))) e ∙ b)

-- ---- the items of a list

pub shown_len : {X : Type 0} (shown : X → Data) (xs : List X) → items_len (items_of (map shown xs)) ≡ length xs
shown_len shown [] = refl
shown_len shown (x ∷ xs) = ap suc (shown_len shown xs)

pub shown_listed : {X : Type 0} (shown : X → Data) (xs : List X) → listed (items_of (map shown xs)) ≡ map shown xs
shown_listed shown [] = refl
shown_listed shown (x ∷ xs) = ap (λ ds. shown x ∷ ds) (shown_listed shown xs)

-- what each item reads as is read of the list
pub map_again : {X Y : Type 0} (shown : X → Data) (f : Data → Y) (g : X → Y) (xs : List X) → AllByRecursion (λ x. f (shown x) ≡ g x) xs → map f (listed (items_of (map shown xs))) ≡ map g xs
map_again shown f g [] h = refl
map_again shown f g (x ∷ xs) h = rw (h.0, map_again shown f g xs h.1)

pub first_fine : {X : Type 0} (f : Data → Option Trouble) (shown : X → Data) (xs : List X) → AllByRecursion (λ x. f (shown x) ≡ None) xs → first_of f (items_of (map shown xs)) ≡ None
unfolding first_of
first_fine f shown [] h = refl
first_fine f shown (x ∷ xs) h = rw h.0 (first_fine f shown xs h.1)

pub every : {X : Type 0} (P : X → Type 0) → ((x : X) → P x) → (xs : List X) → AllByRecursion P xs
every P f [] = tt
every P f (x ∷ xs) = (f x, every P f xs)

-- one item of a list, and no more
pub items_go : {S : Type 0} (step : S → Visit → Result S SceneFault) (inside : Place → Data → List Visit) (s t : S) (d : Data) (ds : Items) (place : Place) (i : ℕ) → run step s (inside (at_item place i) d) ≡ Ok t → run step s (items_from inside place i (item d ds)) ≡ run step t (items_from inside place (suc i) ds)
unfolding items_from
items_go step inside s t d ds place i h = goes_on step s t (inside (at_item place i) d) (items_from inside place (suc i) ds) h

pub items_done : {S : Type 0} (step : S → Visit → Result S SceneFault) (inside : Place → Data → List Visit) (s : S) (place : Place) (i : ℕ) → run step s (items_from inside place i no_items) ≡ Ok s
unfolding run items_from
items_done step inside s place i = refl

-- a pass that each item leaves as it was
pub run_same : {X S : Type 0} (step : S → Visit → Result S SceneFault) (inside : Place → Data → List Visit) (shown : X → Data) (P : X → Type 0) (s : S)
    → ((x : X) (place : Place) → P x → run step s (inside place (shown x)) ≡ Ok s)
    → (xs : List X) (place : Place) (i : ℕ) → AllByRecursion P xs → run step s (items_from inside place i (items_of (map shown xs))) ≡ Ok s
unfolding run items_from
run_same step inside shown P s one [] place i h = refl
run_same step inside shown P s one (x ∷ xs) place i h = goes_on step s s _ _ (one x (at_item place i) h.0) ∙ run_same step inside shown P s one xs place (suc i) h.1

-- acts without a fault
abbrev pub AllFine : {X : Type 0} → (X → Data) → (ℕ → Data → Option Trouble) → List X → Type 0
AllFine shown f [] = Unit {0}
AllFine shown f (x ∷ xs) = (f (length xs) (shown x) ≡ None) × AllFine shown f xs

pub acts_fine : {X : Type 0} (shown : X → Data) (f : ℕ → Data → Option Trouble) (place : Place) (i : ℕ) (xs : List X) → AllFine shown f xs → acts_from f place i (items_of (map shown xs)) ≡ None
unfolding acts_from
acts_fine shown f place i [] h = refl
acts_fine shown f place i (x ∷ xs) h = rw (shown_len shown xs, h.0) (acts_fine shown f place (suc i) xs h.1)
