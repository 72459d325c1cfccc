-- What the first three passes make sure of, at each visit.
use Rattle.std.proofs.Common.{◌≡◌, ℕ, zero, suc, ◌+◌, ◌<◌, ◌≤◌, List, [], ◌∷◌, ◌++◌, length, map, get_or, Bool, true, false, not, ◌&&◌, ◌||◌, Option, Some, None, is_some, Result, Ok, Err, refl, sym, ap, ◌∙◌, subst, arith, codes, if◌then◌else◌, nat_le, nat_lt, bytes_eq}
use Rattle.std.proofs.lemmas.Bool.{and_from, leb-true, true≢false}
use Rattle.std.specs.Prelude.{◌==◌}
use Rattle.std.proofs.lemmas.Slice.Eq.{bytes_eq-Decides}
use Rattle.std.specs.List.{AllByRecursion, IsDistinct}
use Rattle.std.specs.Option.{option_and_then, option_map}
use Rattle.serde_json.specs.Data.{Data, Items, no_items, item, null, boolean, number, string, array, object as object_data}
use Rattle.serde_json.specs.Events.{items_len}
use Rattle.serde_json.specs.Find.{as_str, as_array, get}
use Rattle.so_scene.specs.Checked.{given}
use Rattle.so_scene.specs.declared.parts.DispKind.{DispKind}
use Rattle.so_scene.specs.declared.parts.DispKind.TheVariants.{ActiveGroup}
use Rattle.so_fault.specs.Faults.{spelling}
use Rattle.so_scene.specs.Names.{has_name}
use Rattle.so_scene.specs.Words.{is_name}
use Rattle.so_scene.specs.Written.{is_state_name, IsNumber}
use Rattle.so_fault.specs.declared.place.Field.{Field}
use Rattle.so_fault.specs.declared.place.Field.TheVariants as field
use Rattle.so_fault.specs.declared.fault.SceneFault.{SceneFault}
use Rattle.so_fault.specs.declared.fault.SceneFault.TheVariants as fault
use Rattle.so_scene_fields.specs.declared.act_table.Allowed.{Allowed}
use Rattle.so_scene_fields.specs.declared.act_table.Allowed.TheVariants.{AnyAct, NoSwitch}
use Rattle.so_scene_fields.specs.declared.act_table.Word.{Word}
use Rattle.so_scene_fields.specs.declared.act_table.Word.TheVariants as word
use Rattle.so_scene_passes.specs.declared.declare.Declared.{Declared}
use Rattle.so_scene_passes.specs.declared.known.Known.{Known}
use Rattle.so_scene_passes.specs.declared.shape.Shape.{Shape}
use Rattle.so_scene_fields.specs.declared.table.ObjectKind.{ObjectKind}
use Rattle.so_scene_fields.specs.declared.table.ObjectKind.TheVariants as object
use Rattle.so_scene_fields.specs.declared.table.Space.{Space}
use Rattle.so_scene_fields.specs.declared.table.Space.TheVariants as space
use Rattle.so_scene_fields.specs.declared.table.Form.{Form}
use Rattle.so_scene_fields.specs.declared.table.Form.TheVariants as form
use Rattle.so_scene_fields.specs.declared.table.Rule.{Rule}
use Rattle.so_scene_fields.specs.declared.values.Trouble.{Trouble}
use Rattle.so_scene_fields.specs.declared.values.Trouble.TheVariants.{WrongShape, UnknownName, OutOfRange}
use Rattle.so_scene_fields.specs.Table.{rules_of, objects_of, required, optional, later}
use Rattle.so_scene_fields.specs.Values.{checked, trouble, name_of, name_in, text_or_empty, string_in, id_in, group_in, is_safe, ◌else◌, ◌or◌}
use Rattle.so_scene_fields.specs.ActTable.{handler_acts}
use Rattle.so_scene_fields.specs.Acts.{act_parts, act_trouble}
use Rattle.so_scene_fields.specs.Values.{value_in}
use Rattle.so_scene_fields.specs.Numbers.{HasNumbers, EntersNumbers}
use Rattle.so_scene_fields.specs.Visits.{Visit, enters, tries, leaves, Place, visits, fields_of, field_visits, in_objects, items_from, at_item, at_key, list_of, listed, run, ◌>>=◌}
use Rattle.so_scene_passes.specs.Shape.{acts_from, acts_fault, is_initial, is_breach, shape_step, shape_fault, unless_faulty, field_fault, trouble_at, list_trouble, first_of, object_trouble, is_row_breach, is_pool_breach, is_quotes_breach, is_disp_breach, state_name_trouble, name_trouble as shape_name_trouble}
use Rattle.so_scene_passes.specs.Scope.{ids_of, names_of, state_items, row_items, filter_items}
use Rattle.so_scene_passes.specs.Twice.{twice_step, disp_number, disp_number_in, names_in, with_name, with_field, with_mbox_read, with_mboxes, declared_name}
use Rattle.so_scene_passes.specs.Known.{known_step, entered, field_unknown, send_trouble, word_unknown, parts_unknown, act_unknown, name_trouble, object_unknown, group_unfit, kind_at}
use Rattle.so_lists.proofs.Filters.{each-append, each-weaker}
use Rattle.so_scene.proofs.Positions.{absent_any, no_names as no_distinct}
use Rattle.so_scene_fields.proofs.Numbers.{get_numbers, number_read}
use Rattle.so_scene_passes.proofs.Joined.{absent_first, absent_second}
use Rattle.so_scene_fields.proofs.Runs.{run-append}

abbrev pub ok : {S : Type 0} → S → Result S SceneFault
ok x = Ok x

pub ok_same : {S : Type 0} (s t : S) → ok s ≡ Ok t → s ≡ t
ok_same s t e = cc

-- ---- the first pass

passed_one : {S : Type 0} (f : S → Visit → Option SceneFault) (s t : S) (v : Visit) (vs : List Visit) (o : Option SceneFault) → f s v ≡ o
    → (run (λ s v. unless_faulty s (f s v)) s vs ≡ Ok t → AllByRecursion (λ v. f s v ≡ None) vs)
    → (unless_faulty s o >>= λ u. run (λ s v. unless_faulty s (f s v)) u vs) ≡ Ok t → AllByRecursion (λ v. f s v ≡ None) (v ∷ vs)
passed_one f s t v vs None e more h = (e, more h)
passed_one f s t v vs (Some x) e more h = absurd cc

passes_each : {S : Type 0} (f : S → Visit → Option SceneFault) (s t : S) (vs : List Visit) → run (λ s v. unless_faulty s (f s v)) s vs ≡ Ok t → AllByRecursion (λ v. f s v ≡ None) vs
unfolding run
passes_each f s t [] h = tt
passes_each f s t (v ∷ vs) h = passed_one f s t v vs (f s v) refl (passes_each f s t vs) h

-- ---- the third pass

-- a message that is sent is declared, and carries nothing where it is a signal
abbrev pub IsWordKnown : Declared → Word → Items → Type 0
IsWordKnown names word.Send ds = send_trouble names ds ≡ None
IsWordKnown names other ds = Unit {0}

abbrev pub ArePartsKnown : Declared → Option (Word × Items) → Type 0
ArePartsKnown names None = Unit {0}
ArePartsKnown names (Some p) = IsWordKnown names p.0 p.1

abbrev pub IsActKnown : Declared → Data → Type 0
IsActKnown names d = ArePartsKnown names (act_parts d)

abbrev pub AreKnown : Declared → Form → Place → Option Data → Type 0
AreKnown names (form.NameIn space) place (Some d) = trouble_at place (name_trouble names space (as_str d)) ≡ None
AreKnown names (form.Acts allowed) place (Some d) = AllByRecursion (IsActKnown names) (listed (list_of (Some d)))
AreKnown names form.Handler place (Some d) = AllByRecursion (IsActKnown names) (listed (list_of (Some d)))
AreKnown names other place found = Unit {0}

-- a name that the field uses is declared, and an agent has a group where it should
abbrev pub IsKnown : Declared → Visit → Type 0
IsKnown names (enters kind place d) = object_unknown kind names place d ≡ None
IsKnown names (tries rule place d found) = AreKnown names rule.form place found
IsKnown names (leaves kind place d) = Unit {0}

record Knew (k t : Known) (v : Visit) : Type 0 where
  names : t.names ≡ k.names
  known : IsKnown k.names v

record Ended {S : Type 0} (s t : S) (o : Option SceneFault) : Type 0 where
  same : s ≡ t
  none : o ≡ None

no_fault : {S : Type 0} (s t : S) (o : Option SceneFault) → unless_faulty s o ≡ Ok t → Ended s t o
no_fault s t None e = record { same = ok_same s t e; none = refl }
no_fault s t (Some x) e = absurd cc

neither_there : {X : Type 0} (a b : Option X) → (a or b) ≡ None → (a ≡ None) × (b ≡ None)
neither_there None b e = (refl, e)
neither_there (Some x) b e = absurd cc

no_trouble : (place : Place) (o : Option Trouble) → trouble_at place o ≡ None → o ≡ None
no_trouble place None e = refl
no_trouble place (Some t) e = absurd cc

word_known : (k : Known) (wd : Word) (ds : Items) → word_unknown k wd ds ≡ None → IsWordKnown k.names wd ds
word_known k word.Send ds e = e
word_known k other ds e = tt

parts_known : (k : Known) (o : Option (Word × Items)) → parts_unknown k o ≡ None → ArePartsKnown k.names o
parts_known k None e = tt
parts_known k (Some p) e = word_known k p.0 p.1 e

acts_known : (k : Known) (place : Place) (i : ℕ) (ds : Items) → acts_from (λ rest x. act_unknown k x) place i ds ≡ None → AllByRecursion (IsActKnown k.names) (listed ds)
unfolding acts_from
acts_known k place i no_items e = tt
acts_known k place i (item d ds) e =
    let p = neither_there (trouble_at (at_item place i) (act_unknown k d)) (acts_from (λ rest x. act_unknown k x) place (suc i) ds) e in
    (parts_known k (act_parts d) (no_trouble (at_item place i) (act_unknown k d) p.0), acts_known k place (suc i) ds p.1)

known_form : (k : Known) (f : Form) (place : Place) (found : Option Data) → field_unknown k f place found ≡ None → AreKnown k.names f place found
known_form k (form.NameIn space) place (Some d) e = e
known_form k (form.NameIn space) place None e = tt
known_form k (form.Acts allowed) place (Some d) e = acts_known k place 0 (list_of (Some d)) e
known_form k (form.Acts allowed) place None e = tt
known_form k form.Handler place (Some d) e = acts_known k place 0 (list_of (Some d)) e
known_form k form.Handler place None e = tt
known_form k other place found e = tt

same_names : (kind : ObjectKind) (d : Data) (k : Known) → (entered kind d k).names ≡ k.names
same_names object.Agent d k = refl
same_names other d k = refl

knew : (k t : Known) (v : Visit) → known_step k v ≡ Ok t → Knew k t v
knew k t (enters kind place d) e =
    let p = no_fault (entered kind d k) t (object_unknown kind k.names place d) e in
    record { names = ap (λ (x : Known). x.names) (sym p.same) ∙ same_names kind d k; known = p.none }
knew k t (tries rule place d found) e =
    let p = no_fault k t (field_unknown k rule.form place found) e in
    record { names = ap (λ (x : Known). x.names) (sym p.same); known = known_form k rule.form place found p.none }
knew k t (leaves kind place d) e = record { names = ap (λ (x : Known). x.names) (sym (ok_same k t e)); known = tt }

pub record KnewAll (k t : Known) (vs : List Visit) : Type 0 where
  pub names : t.names ≡ k.names
  pub each : AllByRecursion (IsKnown k.names) vs

knew_more : (k t : Known) (v : Visit) (vs : List Visit) (r : Result Known SceneFault) → known_step k v ≡ r → ((u : Known) → run known_step u vs ≡ Ok t → KnewAll u t vs) → (r >>= λ u. run known_step u vs) ≡ Ok t → KnewAll k t (v ∷ vs)
knew_more k t v vs (Ok u) e more h =
    let one = knew k u v e in
    let rest = more u h in
    record { names = rest.names ∙ one.names; each = (one.known, subst (λ n. AllByRecursion (IsKnown n) vs) one.names rest.each) }
knew_more k t v vs (Err x) e more h = absurd cc

knew_all : (k t : Known) (vs : List Visit) → run known_step k vs ≡ Ok t → KnewAll k t vs
unfolding run
knew_all k t [] h = record { names = ap (λ (x : Known). x.names) (sym (ok_same k t h)); each = tt }
knew_all k t (v ∷ vs) h = knew_more k t v vs (known_step k v) refl (λ u r. knew_all u t vs r) h

-- ---- what visits pass

-- a visit has the shape that it should, the names that it uses are declared, and its numbers have 64 bits
abbrev pub IsFine : Declared → Visit → Type 0
IsFine names v = (shape_fault v ≡ None) × IsKnown names v × EntersNumbers v

fine_each : (names : Declared) (vs : List Visit) → AllByRecursion (λ v. shape_fault v ≡ None) vs → AllByRecursion (IsKnown names) vs → AllByRecursion EntersNumbers vs → AllByRecursion (IsFine names) vs
fine_each names [] a b n = tt
fine_each names (v ∷ vs) a b n = ((a.0, b.0, n.0), fine_each names vs a.1 b.1 n.1)

-- so do these, and somewhere the second pass goes over them
pub record ArePassed (names : Declared) (vs : List Visit) : Type 0 where
  pub each : AllByRecursion (IsFine names) vs
  pub begins : Declared
  pub ends : Declared
  pub runs : run twice_step begins vs ≡ Ok ends

record Split {S : Type 0} (r : Result S SceneFault) (f : S → Result S SceneFault) (t : S) : Type 0 where
  between : S
  first : r ≡ Ok between
  second : f between ≡ Ok t

split : {S : Type 0} (r : Result S SceneFault) (f : S → Result S SceneFault) (t : S) → (r >>= f) ≡ Ok t → Split r f t
split (Ok u) f t e = record { between = u; first = refl; second = e }
split (Err x) f t e = absurd cc

front : {X : Type 0} (P : X → Type 0) (xs ys : List X) → AllByRecursion P (xs ++ ys) → AllByRecursion P xs
front P [] ys a = tt
front P (x ∷ xs) ys a = (a.0, front P xs ys a.1)

back : {X : Type 0} (P : X → Type 0) (xs ys : List X) → AllByRecursion P (xs ++ ys) → AllByRecursion P ys
back P [] ys a = a
back P (x ∷ xs) ys a = back P xs ys a.1

halves : (s t : Declared) (xs ys : List Visit) → run twice_step s (xs ++ ys) ≡ Ok t → Split (run twice_step s xs) (λ u. run twice_step u ys) t
halves s t xs ys e = split (run twice_step s xs) (λ u. run twice_step u ys) t (sym (run-append twice_step s xs ys) ∙ e)

passed_front : (names : Declared) (xs ys : List Visit) → ArePassed names (xs ++ ys) → ArePassed names xs
passed_front names xs ys p =
    let h = halves p.begins p.ends xs ys p.runs in
    record { each = front (IsFine names) xs ys p.each; begins = p.begins; ends = h.between; runs = h.first }

passed_back : (names : Declared) (xs ys : List Visit) → ArePassed names (xs ++ ys) → ArePassed names ys
passed_back names xs ys p =
    let h = halves p.begins p.ends xs ys p.runs in
    record { each = back (IsFine names) xs ys p.each; begins = h.between; ends = p.ends; runs = h.second }

passed_tail : (names : Declared) (v : Visit) (vs : List Visit) → ArePassed names (v ∷ vs) → ArePassed names vs
passed_tail names v vs p = passed_back names (v ∷ []) vs p

pub passed_all : (names declared : Declared) (shape shaped : Shape) (k known : Known) (vs : List Visit) → AllByRecursion EntersNumbers vs → k.names ≡ names → run shape_step shape vs ≡ Ok shaped → run twice_step declared vs ≡ Ok names → run known_step k vs ≡ Ok known → (known.names ≡ names) × ArePassed names vs
passed_all names declared shape shaped k known vs numbers n e f g =
    let q = knew_all k known vs g in (
      q.names ∙ n,
      record {
        each = fine_each names vs (passes_each (λ s v. shape_fault v) shape shaped vs e) (subst (λ m. AllByRecursion (IsKnown m) vs) n q.each) numbers;
        begins = declared;
        ends = names;
        runs = f;
      },
    )

-- ---- the fields of an object

passed_field : (names : Declared) (inside : ObjectKind → Place → Data → List Visit) (rules : List Rule) (k : ℕ) (default : Rule) (place : Place) (d : Data) → k < length rules
    → ArePassed names (fields_of inside rules place d) → ArePassed names (field_visits inside (get_or rules k default) place d)
unfolding fields_of
passed_field names inside [] k default place d l p = absurd (omega arith)
passed_field names inside (rule ∷ rules) zero default place d l p = passed_front names (field_visits inside rule place d) (fields_of inside rules place d) p
passed_field names inside (rule ∷ rules) (suc k) default place d l p =
    passed_field names inside rules k default place d (omega arith) (passed_back names (field_visits inside rule place d) (fields_of inside rules place d) p)

abbrev found_in : Rule → Data → Option Data
found_in rule d = get (spelling rule.field) d

passed_try : (names : Declared) (inside : ObjectKind → Place → Data → List Visit) (rule : Rule) (place : Place) (d : Data) → ArePassed names (field_visits inside rule place d) → IsFine names (tries rule (at_key place rule) d (found_in rule d))
unfolding field_visits
passed_try names inside rule place d p = p.each.0

passed_inside : (names : Declared) (inside : ObjectKind → Place → Data → List Visit) (rule : Rule) (place : Place) (d : Data) → ArePassed names (field_visits inside rule place d) → ArePassed names (in_objects inside (objects_of rule.form) (at_key place rule) (found_in rule d))
unfolding field_visits
passed_inside names inside rule place d p = passed_tail names (tries rule (at_key place rule) d (found_in rule d)) (in_objects inside (objects_of rule.form) (at_key place rule) (found_in rule d)) p

abbrev inner : ℕ → ObjectKind → Place → Data → List Visit
inner n kind place d = fields_of (visits n) (rules_of kind) place d

passed_fields : (names : Declared) (n : ℕ) (kind : ObjectKind) (place : Place) (d : Data) → ArePassed names (visits (suc n) kind place d) → ArePassed names (inner n kind place d)
unfolding visits
passed_fields names n kind place d p =
    passed_front names (inner n kind place d) (leaves kind place d ∷ []) (passed_tail names (enters kind place d) (inner n kind place d ++ leaves kind place d ∷ []) p)

-- ---- a name that a field uses

known_name : (names : Declared) (space : Space) (place : Place) (text : List ℕ) (b : Bool) → has_name (names_in space names) text ≡ b → trouble_at place (if b then None else Some UnknownName) ≡ None → has_name (names_in space names) text ≡ true
known_name names space place text true e h = e
known_name names space place text false e h = absurd cc

known_string : (names : Declared) (space : Space) (place : Place) (o : Option (List ℕ)) → trouble_at place (trouble (option_and_then (checked is_name) o else WrongShape)) ≡ None → trouble_at place (name_trouble names space o) ≡ None → has_name (names_in space names) (text_or_empty o) ≡ true
known_string names space place None e h = absurd cc
known_string names space place (Some text) e h = known_name names space place text (has_name (names_in space names) text) refl h

known_field : (names : Declared) (space : Space) (f : Field) (place : Place) (o : Data) (found : Option Data) → IsFine names (tries (required f (form.NameIn space)) place o found) → has_name (names_in space names) (text_or_empty (option_and_then as_str found)) ≡ true
known_field names space f place o None h = absurd cc
known_field names space f place o (Some d) h = known_string names space place (as_str d) h.0 h.1

known_if_there : (names : Declared) (space : Space) (f : Field) (place : Place) (o : Data) (found : Option Data) → IsFine names (tries (optional f (form.NameIn space)) place o found) → is_some found ≡ true → has_name (names_in space names) (text_or_empty (option_and_then as_str found)) ≡ true
known_if_there names space f place o None h there = absurd (true≢false (sym there))
known_if_there names space f place o (Some d) h there = known_string names space place (as_str d) h.0 h.1

known_disp : (names : Declared) (place : Place) (o : Option (List ℕ)) → trouble_at place (name_trouble names space.Dispatchers o) ≡ None → is_some (disp_number names o) ≡ true
known_disp names place None h = refl
known_disp names place (Some text) h = known_name names space.Dispatchers place text (has_name (names_in space.Dispatchers names) text) refl h

-- the dispatcher of an agent is declared
known_if_given : (names : Declared) (f : Field) (place : Place) (o : Data) (found : Option Data) → IsFine names (tries (optional f (form.NameIn space.Dispatchers)) place o found) → is_some (disp_number names (option_and_then as_str found)) ≡ true
known_if_given names f place o None h = refl
known_if_given names f place o (Some d) h = known_disp names place (as_str d) h.1

-- ---- names that objects declare

named_if : (b : Bool) (place : Place) (s : List ℕ) → is_name s ≡ b → trouble_at place (trouble ((if b then Some s else None) else WrongShape)) ≡ None → is_name (text_or_empty (if b then Some s else None)) ≡ true
named_if true place s e h = e
named_if false place s e h = absurd cc

named_string : (place : Place) (o : Option (List ℕ)) → trouble_at place (trouble (option_and_then (checked is_name) o else WrongShape)) ≡ None → is_name (text_or_empty (checked is_name (text_or_empty o))) ≡ true
named_string place None h = absurd cc
named_string place (Some s) h = named_if (is_name s) place s refl h

-- a field that must have a name has one
named_field : (place : Place) (o : Data) (found : Option Data) → field_fault (required field.Name form.Name) place o found ≡ None → is_name (text_or_empty (checked is_name (text_or_empty (option_and_then as_str found)))) ≡ true
named_field place o None h = absurd cc
named_field place o (Some d) h = named_string place (as_str d) h

not_default : (b : Bool) (place : Place) → trouble_at place (if b then Some WrongShape else None) ≡ None → not b ≡ true
not_default true place h = absurd cc
not_default false place h = refl

named_state_if : (b : Bool) (place : Place) (s : List ℕ) → is_name s ≡ b → trouble_at place (state_name_trouble ((if b then Some s else None) else WrongShape)) ≡ None → is_state_name (text_or_empty (if b then Some s else None)) ≡ true
named_state_if true place s e h = and_from (is_name s) (not (bytes_eq s (codes "default"))) e (not_default (bytes_eq s (codes "default")) place h)
named_state_if false place s e h = absurd cc

named_state_string : (place : Place) (o : Option (List ℕ)) → trouble_at place (state_name_trouble (option_and_then (checked is_name) o else WrongShape)) ≡ None → is_state_name (text_or_empty (checked is_name (text_or_empty o))) ≡ true
named_state_string place None h = absurd cc
named_state_string place (Some s) h = named_state_if (is_name s) place s refl h

named_state_field : (place : Place) (o : Data) (found : Option Data) → field_fault (required field.Name form.StateName) place o found ≡ None → is_state_name (text_or_empty (checked is_name (text_or_empty (option_and_then as_str found)))) ≡ true
named_state_field place o None h = absurd cc
named_state_field place o (Some d) h = named_state_string place (as_str d) h

-- a group is given exactly where its field is
given_name_if : (b : Bool) (place : Place) (s : List ℕ) → is_name s ≡ b → trouble_at place (trouble ((if b then Some s else None) else WrongShape)) ≡ None → is_some (if b then Some s else None) ≡ true
given_name_if true place s e h = refl
given_name_if false place s e h = absurd cc

given_string : (place : Place) (o : Option (List ℕ)) → trouble_at place (trouble (option_and_then (checked is_name) o else WrongShape)) ≡ None → is_some (checked is_name (text_or_empty o)) ≡ true
given_string place None h = absurd cc
given_string place (Some s) h = given_name_if (is_name s) place s refl h

given_field : (f : Field) (place : Place) (o : Data) (found : Option Data) → field_fault (optional f form.Name) place o found ≡ None → is_some (checked is_name (text_or_empty (option_and_then as_str found))) ≡ is_some found
given_field f place o None h = refl
given_field f place o (Some d) h = given_string place (as_str d) h

-- ---- acts

few_if : (allowed : Allowed) (place : Place) (ds : Items) (b : Bool) → nat_le (items_len ds) 256 ≡ b → (if b then acts_from (act_trouble allowed) place 0 ds else Some (fault.OutOfRange place)) ≡ None → items_len ds ≤ 256
few_if allowed place ds true e h = leb-true (items_len ds) 256 e
few_if allowed place ds false e h = absurd cc

few_acts : (allowed : Allowed) (place : Place) (d : Data) → acts_fault allowed place (as_array d) ≡ None → items_len (list_of (Some d)) ≤ 256
few_acts allowed place null h = absurd cc
few_acts allowed place (boolean b) h = absurd cc
few_acts allowed place (number n) h = absurd cc
few_acts allowed place (string s) h = absurd cc
few_acts allowed place (array ds) h = few_if allowed place ds (nat_le (items_len ds) 256) refl h
few_acts allowed place (object_data ms) h = absurd cc

-- a list of acts is short, and its signals carry nothing
pub record AreActs (names : Declared) (found : Option Data) : Type 0 where
  pub few : items_len (list_of found) ≤ 256
  pub known : AllByRecursion (IsActKnown names) (listed (list_of found))

fine_acts : (names : Declared) (allowed : Allowed) (f : Field) (place : Place) (o : Data) (found : Option Data) → IsFine names (tries (optional f (form.Acts allowed)) place o found) → AreActs names found
fine_acts names allowed f place o None h = record { few = omega arith; known = tt }
fine_acts names allowed f place o (Some d) h = record { few = few_acts allowed place d h.0; known = h.1 }

fine_handler : (names : Declared) (place : Place) (row : Data) (found : Option Data) → IsFine names (tries (optional field.Do form.Handler) place row found) → AreActs names found
fine_handler names place row None h = record { few = omega arith; known = tt }
fine_handler names place row (Some d) h = record { few = few_acts (handler_acts row) place d h.0; known = h.1 }

-- ---- states, rows and filters

pub record HasState (names : Declared) (d : Data) : Type 0 where
  pub named : is_state_name (name_in d) ≡ true
  pub parent : is_initial d ≡ true → is_some (get (codes "parent") d) ≡ true
  pub enter : AreActs names (get (codes "enter") d)
  pub exit : AreActs names (get (codes "exit") d)

pub record HasRow (names : Declared) (d : Data) : Type 0 where
  pub stateless : is_some (get (codes "dead") d) ≡ true → is_some (get (codes "state") d) ≡ false
  pub safe : is_safe d ≡ true → is_some (get (codes "do") d) ≡ true
  pub msg : has_name names.messages (string_in (codes "msg") d) ≡ true
  pub mbox : is_some (get (codes "mbox") d) ≡ true → has_name (names.agents ++ names.mboxes) (string_in (codes "mbox") d) ≡ true
  pub acts : AreActs names (get (codes "do") d)

pub record HasFilter (names : Declared) (d : Data) : Type 0 where
  pub msg : has_name names.messages (string_in (codes "msg") d) ≡ true
  pub mbox : has_name (names.agents ++ names.mboxes) (string_in (codes "mbox") d) ≡ true
  pub value : IsNumber (value_in d)

-- ---- cooperations

pub record HasCoop (names : Declared) (d : Data) : Type 0 where
  pub named : is_name (name_in d) ≡ true
  pub parent : is_some (get (codes "parent") d) ≡ true → has_name names.coops (string_in (codes "parent") d) ≡ true

no_rule : Rule
no_rule = later field.Id

fine_try : (names : Declared) (n : ℕ) (kind : ObjectKind) (k : ℕ) (place : Place) (d : Data) → k < length (rules_of kind) → ArePassed names (visits (suc n) kind place d)
    → IsFine names (tries (get_or (rules_of kind) k no_rule) (at_key place (get_or (rules_of kind) k no_rule)) d (found_in (get_or (rules_of kind) k no_rule) d))
fine_try names n kind k place d l p = passed_try names (visits n) (get_or (rules_of kind) k no_rule) place d (passed_field names (visits n) (rules_of kind) k no_rule place d l (passed_fields names n kind place d p))

-- what is tried as an object begins
passed_first : (names : Declared) (n : ℕ) (kind : ObjectKind) (place : Place) (d : Data) → ArePassed names (visits (suc n) kind place d) → IsFine names (enters kind place d)
unfolding visits
passed_first names n kind place d p = p.each.0

-- what is tried as an object ends
passed_last : (names : Declared) (n : ℕ) (kind : ObjectKind) (place : Place) (d : Data) → ArePassed names (visits (suc n) kind place d) → IsFine names (leaves kind place d)
unfolding visits
passed_last names n kind place d p =
    (passed_back names (inner n kind place d) (leaves kind place d ∷ []) (passed_tail names (enters kind place d) (inner n kind place d ++ leaves kind place d ∷ []) p)).each.0

no_breach : (place : Place) (b : Bool) → (if b then Some (fault.WrongShape place) else None) ≡ None → b ≡ false
no_breach place true e = absurd cc
no_breach place false e = refl

no_third : (a b c d : Bool) → (a || ((b || c) || d)) ≡ false → (c ≡ false) × (d ≡ false)
no_third true b c d e = absurd (true≢false e)
no_third false true c d e = absurd (true≢false e)
no_third false false true d e = absurd (true≢false e)
no_third false false false d e = (refl, e)

not_both : (a b : Bool) → nat_lt 1 ((if a then 1 else 0) + (if b then 1 else 0)) ≡ false → a ≡ true → b ≡ false
not_both true true e a = absurd cc
not_both true false e a = refl
not_both false b e a = absurd (true≢false (sym a))

there_if : (a b : Bool) → (a && ((if b then 1 else 0) == 0)) ≡ false → a ≡ true → b ≡ true
there_if a true e i = refl
there_if true false e i = absurd (true≢false e)
there_if false false e i = absurd (true≢false (sym i))

-- a dead-letter row has no state, and a safe one has do
fits_row : (names : Declared) (n : ℕ) (place : Place) (d : Data) → ArePassed names (visits (suc n) object.Row place d)
    → (nat_lt 1 ((if is_some (get (codes "dead") d) then 1 else 0) + (if is_some (get (codes "state") d) then 1 else 0)) ≡ false) × ((is_safe d && ((if is_some (get (codes "do") d) then 1 else 0) == 0)) ≡ false)
fits_row names n place d p = no_third _ _ _ _ (no_breach place (is_row_breach d) (passed_last names n object.Row place d p).0)

fine_row : (names : Declared) (n : ℕ) (place : Place) (d : Data) → ArePassed names (visits (suc n) object.Row place d) → HasRow names d
fine_row names n place d p = record {
  stateless = λ dead. not_both (is_some (get (codes "dead") d)) (is_some (get (codes "state") d)) (fits_row names n place d p).0 dead;
  safe = λ safe. there_if (is_safe d) (is_some (get (codes "do") d)) (fits_row names n place d p).1 safe;
  msg = known_field names space.Messages field.Msg _ d (get (codes "msg") d) (fine_try names n object.Row 1 place d (omega arith) p);
  mbox = λ there. known_if_there names space.Mboxes field.Mbox _ d (get (codes "mbox") d) (fine_try names n object.Row 2 place d (omega arith) p) there;
  acts = fine_handler names _ d (get (codes "do") d) (fine_try names n object.Row 4 place d (omega arith) p);
}

fine_state : (names : Declared) (n : ℕ) (place : Place) (d : Data) → ArePassed names (visits (suc n) object.State place d) → HasState names d
fine_state names n place d p = record {
  named = named_state_field _ d (get (codes "name") d) (fine_try names n object.State 0 place d (omega arith) p).0;
  parent = λ initial. there_if (is_initial d) (is_some (get (codes "parent") d)) (no_breach place (is_breach object.State d) (passed_last names n object.State place d p).0) initial;
  enter = fine_acts names NoSwitch field.Enter _ d (get (codes "enter") d) (fine_try names n object.State 5 place d (omega arith) p);
  exit = fine_acts names NoSwitch field.Exit _ d (get (codes "exit") d) (fine_try names n object.State 6 place d (omega arith) p);
}

fine_coop : (names : Declared) (n : ℕ) (place : Place) (d : Data) → ArePassed names (visits (suc n) object.Coop place d) → HasCoop names d
fine_coop names n place d p = record {
  named = named_field _ d (get (codes "name") d) (fine_try names n object.Coop 0 place d (omega arith) p).0;
  parent = λ there. known_if_there names space.Coops field.Parent _ d (get (codes "parent") d) (fine_try names n object.Coop 1 place d (omega arith) p) there;
}

each_named : (names : Declared) (ds : List Data) → AllByRecursion (HasState names) ds → AllByRecursion (λ name. is_state_name name ≡ true) (map name_in ds)
each_named names [] a = tt
each_named names (d ∷ ds) a = (a.0.named, each_named names ds a.1)

-- ---- dispatchers

pub record IsFineDisp (d : Data) : Type 0 where
  pub named : is_name (name_in d) ≡ true
  pub pool : is_pool_breach d ≡ false
  pub quotes : is_quotes_breach d ≡ false

neither : (a b : Bool) → (a || b) ≡ false → (a ≡ false) × (b ≡ false)
neither true b e = absurd (true≢false e)
neither false b e = (refl, e)

fits_disp : (names : Declared) (n : ℕ) (place : Place) (d : Data) → ArePassed names (visits (suc n) object.Dispatcher place d) → (is_pool_breach d ≡ false) × (is_quotes_breach d ≡ false)
fits_disp names n place d p = neither (is_pool_breach d) (is_quotes_breach d) (no_breach place (is_disp_breach d) (passed_last names n object.Dispatcher place d p).0)

fine_disp : (names : Declared) (n : ℕ) (place : Place) (d : Data) → ArePassed names (visits (suc n) object.Dispatcher place d) → IsFineDisp d
fine_disp names n place d p = record {
  named = named_field _ d (get (codes "name") d) (fine_try names n object.Dispatcher 0 place d (omega arith) p).0;
  pool = (fits_disp names n place d p).0;
  quotes = (fits_disp names n place d p).1;
}

-- an agent on an active_group dispatcher names a group, and no other does
abbrev pub HasGroup : DispKind → Option (List ℕ) → Type 0
HasGroup ActiveGroup (Some name) = Unit {0}
HasGroup ActiveGroup None = ⊥
HasGroup other o = o ≡ None

-- the dispatcher of an agent, by its number
pub record HasDisp (names : Declared) (d : Data) : Type 0 where
  pub number : ℕ
  pub is : disp_number_in names d ≡ Some number
  pub group : HasGroup (kind_at names number) (group_in d)

none_given : (o : Option (List ℕ)) → is_some o ≡ false → o ≡ None
none_given None e = refl
none_given (Some name) e = absurd (true≢false e)

one_given : (o : Option (List ℕ)) → is_some o ≡ true → HasGroup ActiveGroup o
one_given None e = absurd (true≢false (sym e))
one_given (Some name) e = tt

has_group : (kind : DispKind) (place : Place) (given : Bool) (o : Option (List ℕ)) → is_some o ≡ given → group_unfit (Some kind) place given ≡ None → HasGroup kind o
has_group ActiveGroup place true o e h = one_given o e
has_group ActiveGroup place false o e h = absurd cc
has_group other place true o e h = absurd cc
has_group other place false o e h = none_given o e

has_disp : (names : Declared) (place : Place) (d : Data) (o : Option ℕ) → disp_number_in names d ≡ o → is_some o ≡ true → is_some (group_in d) ≡ is_some (get (codes "group") d)
    → group_unfit (option_map (kind_at names) o) place (is_some (get (codes "group") d)) ≡ None → HasDisp names d
has_disp names place d None e there given h = absurd (true≢false (sym there))
has_disp names place d (Some k) e there given h = record { number = k; is = e; group = has_group (kind_at names k) place (is_some (get (codes "group") d)) (group_in d) given h }

fine_on : (names : Declared) (n : ℕ) (place : Place) (d : Data) → ArePassed names (visits (suc n) object.Agent place d) → HasDisp names d
fine_on names n place d p =
    has_disp names place d (disp_number_in names d) refl
    (known_if_given names field.Disp _ d (get (codes "disp") d) (fine_try names n object.Agent 1 place d (omega arith) p))
    (given_field field.Group _ d (get (codes "group") d) (fine_try names n object.Agent 2 place d (omega arith) p).0)
    (passed_first names n object.Agent place d p).1

fine_filter : (names : Declared) (n : ℕ) (place : Place) (d : Data) → ArePassed names (visits (suc n) object.Filter place d) → HasFilter names d
fine_filter names n place d p = record {
  msg = known_field names space.Messages field.Msg _ d (get (codes "msg") d) (fine_try names n object.Filter 2 place d (omega arith) p);
  mbox = known_field names space.Mboxes field.Mbox _ d (get (codes "mbox") d) (fine_try names n object.Filter 1 place d (omega arith) p);
  value = number_read (get (codes "value") d) (get_numbers (codes "value") d (passed_first names n object.Filter place d p).2);
}

-- what each object of a list has
each_item : (names : Declared) (P : Data → Type 0) (inside : Place → Data → List Visit) → ((place : Place) (d : Data) → ArePassed names (inside place d) → P d) → (place : Place) (i : ℕ) (ds : Items) → ArePassed names (items_from inside place i ds) → AllByRecursion P (listed ds)
unfolding items_from
each_item names P inside h place i no_items p = tt
each_item names P inside h place i (item d ds) p = (
  h (at_item place i) d (passed_front names (inside (at_item place i) d) (items_from inside place (suc i) ds) p),
  each_item names P inside h place (suc i) ds (passed_back names (inside (at_item place i) d) (items_from inside place (suc i) ds) p),
)

-- ---- ids: each is declared once

record SameIds (s t : Declared) : Type 0 where
  states : t.states ≡ s.states
  rows : t.rows ≡ s.rows
  filters : t.filters ≡ s.filters

kept_ids : (s t : Declared) → s ≡ t → SameIds s t
kept_ids s t e = record { states = ap (λ (x : Declared). x.states) (sym e); rows = ap (λ (x : Declared). x.rows) (sym e); filters = ap (λ (x : Declared). x.filters) (sym e) }

then_ids : (s t u : Declared) → SameIds s t → SameIds t u → SameIds s u
then_ids s t u a b = record { states = b.states ∙ a.states; rows = b.rows ∙ a.rows; filters = b.filters ∙ a.filters }

mbox_ids : (b : Bool) (s : Declared) (name : List ℕ) → SameIds s (if b then s else record s { mboxes = s.mboxes ++ name ∷ [] })
mbox_ids true s name = record { states = refl; rows = refl; filters = refl }
mbox_ids false s name = record { states = refl; rows = refl; filters = refl }

read_ids : (r : Result (List ℕ) Trouble) (s : Declared) → SameIds s (with_mbox_read r s)
read_ids (Ok name) s = mbox_ids (has_name (names_in space.Mboxes s) name) s name
read_ids (Err t) s = record { states = refl; rows = refl; filters = refl }

mboxes_ids : (ds : Items) (s : Declared) → SameIds s (with_mboxes ds s)
unfolding with_mboxes
mboxes_ids no_items s = record { states = refl; rows = refl; filters = refl }
mboxes_ids (item d ds) s = then_ids s (with_mbox_read (name_of d) s) _ (read_ids (name_of d) s) (mboxes_ids ds (with_mbox_read (name_of d) s))

form_ids : (f : Form) (found : Option Data) (s : Declared) → SameIds s (with_field f found s)
form_ids (form.Mboxes limit) found s = mboxes_ids (list_of found) s
form_ids other found s = record { states = refl; rows = refl; filters = refl }

-- no object is entered
abbrev IsInside : Visit → Type 0
IsInside (enters kind place d) = ⊥
IsInside (tries rule place d found) = Unit {0}
IsInside (leaves kind place d) = Unit {0}

step_ids : (s t : Declared) (v : Visit) → IsInside v → twice_step s v ≡ Ok t → SameIds s t
step_ids s t (enters kind place d) h e = absurd h
step_ids s t (tries rule place d found) h e = then_ids s (with_field rule.form found s) t (form_ids rule.form found s) (kept_ids _ t (ok_same (with_field rule.form found s) t e))
step_ids s t (leaves kind place d) h e = kept_ids s t (ok_same s t e)

run_ids : (s t : Declared) (vs : List Visit) → AllByRecursion IsInside vs → run twice_step s vs ≡ Ok t → SameIds s t
unfolding run
run_ids s t [] h e = kept_ids s t (ok_same s t e)
run_ids s t (v ∷ vs) h e =
    let p = split (twice_step s v) (λ u. run twice_step u vs) t e in
    then_ids s p.between t (step_ids s p.between v h.0 p.first) (run_ids p.between t vs h.1 p.second)

-- a kind of object that declares a name in a space, which it may have or not, and has no objects in it
record DeclaresIds (kind : ObjectKind) (space : Space) (id : Data → Option (List ℕ)) : Type 0 where
  enter : (s : Declared) (place : Place) (d : Data) → twice_step s (enters kind place d) ≡ declared_name place space (id d) s
  added : (name : List ℕ) (s : Declared) → names_in space (with_name space name s) ≡ names_in space s ++ name ∷ []
  same : (s t : Declared) → SameIds s t → names_in space t ≡ names_in space s
  within : (n : ℕ) (place : Place) (d : Data) → AllByRecursion IsInside (inner n kind place d ++ leaves kind place d ∷ [])

name_of_state : Data → Option (List ℕ)
name_of_state d = Some (name_in d)

states_declare : DeclaresIds object.State space.States name_of_state
unfolding fields_of field_visits name_of_state
states_declare = record {
  enter = λ s place d. refl;
  added = λ name s. refl;
  same = λ s t h. h.states;
  within = λ n place d. (tt, (tt, (tt, (tt, (tt, (tt, (tt, (tt, tt))))))));
}

rows_declare : DeclaresIds object.Row space.Rows id_in
unfolding fields_of field_visits
rows_declare = record {
  enter = λ s place d. refl;
  added = λ name s. refl;
  same = λ s t h. h.rows;
  within = λ n place d. (tt, (tt, (tt, (tt, (tt, (tt, (tt, (tt, (tt, (tt, (tt, (tt, tt))))))))))));
}

filters_declare : DeclaresIds object.Filter space.Filters id_in
unfolding fields_of field_visits
filters_declare = record {
  enter = λ s place d. refl;
  added = λ name s. refl;
  same = λ s t h. h.filters;
  within = λ n place d. (tt, (tt, (tt, (tt, (tt, (tt, (tt, (tt, tt))))))));
}

-- new names, of which none is an old one
record AreNew (old new : List (List ℕ)) : Type 0 where
  distinct : IsDistinct bytes_eq new
  apart : AllByRecursion (λ x. has_name old x ≡ false) new

pub swapped : (x y : List ℕ) (b : Bool) → bytes_eq x y ≡ b → bytes_eq y x ≡ false → b ≡ false
swapped x y true e n = absurd (true≢false (sym ((bytes_eq-Decides y x).1 (sym ((bytes_eq-Decides x y).0 e))) ∙ n))
swapped x y false e n = refl

first_false : (a : Bool) → (a || false) ≡ false → a ≡ false
first_false true e = absurd (true≢false e)
first_false false e = refl

other_name : (old : List (List ℕ)) (x y : List ℕ) → has_name (old ++ x ∷ []) y ≡ false → bytes_eq x y ≡ false
other_name old x y h = swapped x y (bytes_eq x y) refl (first_false (bytes_eq y x) (absent_any (x ∷ []) y (absent_second y old (x ∷ []) h)))

one_more_new : (old new : List (List ℕ)) (x : List ℕ) → has_name old x ≡ false → AreNew (old ++ x ∷ []) new → AreNew old (x ∷ new)
unfolding IsDistinct
one_more_new old new x absent h = record {
  distinct = (each-weaker (λ y. has_name (old ++ x ∷ []) y ≡ false) (λ y. bytes_eq x y ≡ false) (λ y a. other_name old x y a) new h.apart, h.distinct);
  apart = (absent, each-weaker (λ y. has_name (old ++ x ∷ []) y ≡ false) (λ y. has_name old y ≡ false) (λ y a. absent_first y old (x ∷ []) a) new h.apart);
}

if_new : (b : Bool) (x : SceneFault) (s t : Declared) → (if b then Err x else ok s) ≡ Ok t → (b ≡ false) × (s ≡ t)
if_new true x s t e = absurd cc
if_new false x s t e = (refl, ok_same s t e)

declared_new : (kind : ObjectKind) (space : Space) (id : Data → Option (List ℕ)) → DeclaresIds kind space id → (place : Place) (o : Option (List ℕ)) (ids : List (Option (List ℕ))) (s t u : Declared) → declared_name place space o s ≡ Ok t → names_in space u ≡ names_in space t → AreNew (names_in space u) (given ids) → AreNew (names_in space s) (given (o ∷ ids))
declared_new kind space id is place None ids s t u e f h = subst (λ q. AreNew q (given ids)) (f ∙ ap (names_in space) (sym (ok_same s t e))) h
declared_new kind space id is place (Some x) ids s t u e f h =
    let p = if_new (has_name (names_in space s) x) _ (with_name space x s) t e in
    let same : names_in space u ≡ names_in space s ++ x ∷ [] = f ∙ (ap (names_in space) (sym p.1) ∙ is.added x s) in
    one_more_new (names_in space s) (given ids) x p.0 (subst (λ q. AreNew q (given ids)) same h)

object_new : (kind : ObjectKind) (space : Space) (id : Data → Option (List ℕ)) → DeclaresIds kind space id → (n : ℕ) (place : Place) (d : Data) (ids : List (Option (List ℕ))) (s u : Declared) → run twice_step s (visits (suc n) kind place d) ≡ Ok u → AreNew (names_in space u) (given ids) → AreNew (names_in space s) (given (id d ∷ ids))
unfolding visits run
object_new kind space id is n place d ids s u e h =
    let p = split (twice_step s (enters kind place d)) (λ t. run twice_step t (inner n kind place d ++ leaves kind place d ∷ [])) u e in
    declared_new kind space id is place (id d) ids s p.between u (sym (is.enter s place d) ∙ p.first) (is.same p.between u (run_ids p.between u _ (is.within n place d) p.second)) h

ids_new : (kind : ObjectKind) (space : Space) (id : Data → Option (List ℕ)) → DeclaresIds kind space id → (n : ℕ) (place : Place) (i : ℕ) (ds : Items) (s t : Declared) → run twice_step s (items_from (visits (suc n) kind) place i ds) ≡ Ok t → AreNew (names_in space s) (given (map id (listed ds)))
unfolding items_from
ids_new kind space id is n place i no_items s t e = record { distinct = no_distinct; apart = tt }
ids_new kind space id is n place i (item d ds) s t e =
    let p = halves s t (visits (suc n) kind (at_item place i) d) (items_from (visits (suc n) kind) place (suc i) ds) e in
    object_new kind space id is n (at_item place i) d (map id (listed ds)) s p.between p.first (ids_new kind space id is n place (suc i) ds p.between t p.second)

-- names that are all given
given_names : (ds : List Data) → given (map name_of_state ds) ≡ map name_in ds
unfolding name_of_state
given_names [] = refl
given_names (d ∷ ds) = ap (λ (ns : List (List ℕ)). name_in d ∷ ns) (given_names ds)

-- ---- the limit of a list

limit_items : (place : Place) (limit : ℕ) (f : Data → Option Trouble) (ds : Items) (b : Bool) → nat_le (items_len ds) limit ≡ b → trouble_at place (if b then first_of f ds else Some OutOfRange) ≡ None → items_len ds ≤ limit
limit_items place limit f ds true e h = leb-true (items_len ds) limit e
limit_items place limit f ds false e h = absurd cc

limit_value : (f : Data → Option Trouble) (limit : ℕ) (place : Place) (d : Data) → trouble_at place (list_trouble (Some limit) f (as_array d)) ≡ None → items_len (list_of (Some d)) ≤ limit
limit_value f limit place null h = absurd cc
limit_value f limit place (boolean b) h = absurd cc
limit_value f limit place (number n) h = absurd cc
limit_value f limit place (string s) h = absurd cc
limit_value f limit place (array ds) h = limit_items place limit f ds (nat_le (items_len ds) limit) refl h
limit_value f limit place (object_data ms) h = absurd cc

limit_objects : (f : Field) (kind : ObjectKind) (limit : ℕ) (place : Place) (o : Data) (found : Option Data) → field_fault (optional f (form.Objects kind (Some limit))) place o found ≡ None → items_len (list_of found) ≤ limit
limit_objects f kind limit place o None h = omega arith
limit_objects f kind limit place o (Some d) h = limit_value object_trouble limit place d h

limit_mboxes : (f : Field) (limit : ℕ) (place : Place) (o : Data) (found : Option Data) → field_fault (optional f (form.Mboxes limit)) place o found ≡ None → items_len (list_of found) ≤ limit
limit_mboxes f limit place o None h = omega arith
limit_mboxes f limit place o (Some d) h = limit_value shape_name_trouble limit place d h

-- ---- an agent

pub record IsFineAgent (names : Declared) (d : Data) : Type 0 where
  pub named : is_name (name_in d) ≡ true
  pub on : HasDisp names d
  pub states : AllByRecursion (HasState names) (listed (state_items d))
  pub states_named : AllByRecursion (λ name. is_state_name name ≡ true) (names_of (state_items d))
  pub few_rows : items_len (row_items d) ≤ 128
  pub few_filters : items_len (filter_items d) ≤ 32
  pub rows : AllByRecursion (HasRow names) (listed (row_items d))
  pub filters : AllByRecursion (HasFilter names) (listed (filter_items d))
  pub state_names : IsDistinct bytes_eq (names_of (state_items d))
  pub row_ids : IsDistinct bytes_eq (given (ids_of (row_items d)))
  pub filter_ids : IsDistinct bytes_eq (given (ids_of (filter_items d)))
  pub numbers : HasNumbers d
  pub start : AreActs names (get (codes "start") d)
  pub finish : AreActs names (get (codes "finish") d)

states_rule : Rule
states_rule = optional field.States (form.Objects object.State (Some 63))

filters_rule : Rule
filters_rule = optional field.Filters (form.Objects object.Filter (Some 32))

on_rule : Rule
on_rule = optional field.On (form.Objects object.Row (Some 128))

fine_agent : (names : Declared) (n : ℕ) (place : Place) (d : Data) → ArePassed names (visits (suc (suc n)) object.Agent place d) → IsFineAgent names d
unfolding states_rule filters_rule on_rule
fine_agent names n place d p =
    let fields = passed_fields names (suc n) object.Agent place d p in
    let states = passed_field names (visits (suc n)) (rules_of object.Agent) 7 no_rule place d (omega arith) fields in
    let filters = passed_field names (visits (suc n)) (rules_of object.Agent) 9 no_rule place d (omega arith) fields in
    let rows = passed_field names (visits (suc n)) (rules_of object.Agent) 12 no_rule place d (omega arith) fields in
    let in_states = passed_inside names (visits (suc n)) states_rule place d states in
    let in_filters = passed_inside names (visits (suc n)) filters_rule place d filters in
    let in_rows = passed_inside names (visits (suc n)) on_rule place d rows in
    let each_state = each_item names (HasState names) (visits (suc n) object.State) (fine_state names n) (at_key place states_rule) 0 (state_items d) in_states in
    let new_states = ids_new object.State space.States name_of_state states_declare n (at_key place states_rule) 0 (state_items d) in_states.begins in_states.ends in_states.runs in
    let new_filters = ids_new object.Filter space.Filters id_in filters_declare n (at_key place filters_rule) 0 (filter_items d) in_filters.begins in_filters.ends in_filters.runs in
    let new_rows = ids_new object.Row space.Rows id_in rows_declare n (at_key place on_rule) 0 (row_items d) in_rows.begins in_rows.ends in_rows.runs in
    record {
      named = named_field _ d (get (codes "name") d) (fine_try names (suc n) object.Agent 0 place d (omega arith) p).0;
      on = fine_on names (suc n) place d p;
      states = each_state;
      states_named = each_named names (listed (state_items d)) each_state;
      few_rows = limit_objects field.On object.Row 128 _ d (get (codes "on") d) (passed_try names (visits (suc n)) on_rule place d rows).0;
      few_filters = limit_objects field.Filters object.Filter 32 _ d (get (codes "filters") d) (passed_try names (visits (suc n)) filters_rule place d filters).0;
      rows = each_item names (HasRow names) (visits (suc n) object.Row) (fine_row names n) (at_key place on_rule) 0 (row_items d) in_rows;
      filters = each_item names (HasFilter names) (visits (suc n) object.Filter) (fine_filter names n) (at_key place filters_rule) 0 (filter_items d) in_filters;
      state_names = subst (IsDistinct bytes_eq) (given_names (listed (state_items d))) new_states.distinct;
      row_ids = new_rows.distinct;
      filter_ids = new_filters.distinct;
      numbers = (passed_first names (suc n) object.Agent place d p).2;
      start = fine_acts names AnyAct field.Start _ d (get (codes "start") d) (fine_try names (suc n) object.Agent 10 place d (omega arith) p);
      finish = fine_acts names AnyAct field.Finish _ d (get (codes "finish") d) (fine_try names (suc n) object.Agent 11 place d (omega arith) p);
    }

abbrev pub EntersFine : Declared → Visit → Type 0
EntersFine names (enters object.Message place d) = is_name (name_in d) ≡ true
EntersFine names (enters object.Dispatcher place d) = IsFineDisp d
EntersFine names (enters object.Coop place d) = HasCoop names d
EntersFine names (enters object.Agent place d) = IsFineAgent names d
EntersFine names (enters other place d) = Unit {0}
EntersFine names (tries rule place d found) = Unit {0}
EntersFine names (leaves kind place d) = Unit {0}

-- ---- all visits of a scene

-- how many levels of objects stand in one of a kind, itself among them
abbrev height : ObjectKind → ℕ
height object.Scene = 4
height object.Coop = 3
height object.Agent = 2
height other = 1

abbrev IsBelow : ℕ → Option ObjectKind → Type 0
IsBelow h None = Unit {0}
IsBelow h (Some kind) = height kind < h

rules_below : (kind : ObjectKind) → AllByRecursion (λ rule. IsBelow (height kind) (objects_of rule.form)) (rules_of kind)
rules_below object.Scene = (tt, (tt, (tt, (omega arith, (tt, (tt, (omega arith, (omega arith, (tt, tt)))))))))
rules_below object.Message = (tt, (tt, tt))
rules_below object.Dispatcher = (tt, (tt, (tt, (tt, (tt, (tt, tt))))))
rules_below object.Coop = (tt, (tt, (tt, (tt, (omega arith, tt)))))
rules_below object.Agent = (tt, (tt, (tt, (tt, (tt, (tt, (tt, (omega arith, (tt, (omega arith, (tt, (tt, (omega arith, tt)))))))))))))
rules_below object.State = (tt, (tt, (tt, (tt, (tt, (tt, (tt, tt)))))))
rules_below object.Filter = (tt, (tt, (tt, (tt, (tt, (tt, (tt, tt)))))))
rules_below object.Row = (tt, (tt, (tt, (tt, (tt, (tt, (tt, (tt, (tt, (tt, (tt, tt)))))))))))

items_fine : (names : Declared) (inside : Place → Data → List Visit) → ((place : Place) (d : Data) → ArePassed names (inside place d) → AllByRecursion (EntersFine names) (inside place d)) → (place : Place) (i : ℕ) (ds : Items) → ArePassed names (items_from inside place i ds) → AllByRecursion (EntersFine names) (items_from inside place i ds)
unfolding items_from
items_fine names inside h place i no_items p = tt
items_fine names inside h place i (item d ds) p =
    each-append (EntersFine names) (inside (at_item place i) d) (items_from inside place (suc i) ds)
    (h (at_item place i) d (passed_front names (inside (at_item place i) d) (items_from inside place (suc i) ds) p))
    (items_fine names inside h place (suc i) ds (passed_back names (inside (at_item place i) d) (items_from inside place (suc i) ds) p))

-- what holds of the visits of each object inside holds of all of them
abbrev InsideFine : Declared → ℕ → Type 0
InsideFine names n = (kind : ObjectKind) (place : Place) (d : Data) → height kind ≤ n → ArePassed names (visits n kind place d) → AllByRecursion (EntersFine names) (visits n kind place d)

objects_fine : (names : Declared) (n h : ℕ) → InsideFine names n → h ≤ suc n → (o : Option ObjectKind) → IsBelow h o → (place : Place) (found : Option Data) → ArePassed names (in_objects (visits n) o place found) → AllByRecursion (EntersFine names) (in_objects (visits n) o place found)
objects_fine names n h inside l None b place found p = tt
objects_fine names n h inside l (Some kind) b place found p = items_fine names (visits n kind) (λ at d q. inside kind at d (omega (arith, l, b)) q) place 0 (list_of found) p

field_fine : (names : Declared) (n h : ℕ) → InsideFine names n → h ≤ suc n → (rule : Rule) → IsBelow h (objects_of rule.form) → (place : Place) (d : Data) → ArePassed names (field_visits (visits n) rule place d) → AllByRecursion (EntersFine names) (field_visits (visits n) rule place d)
unfolding field_visits
field_fine names n h inside l rule b place d p = (tt, objects_fine names n h inside l (objects_of rule.form) b (at_key place rule) (found_in rule d) (passed_inside names (visits n) rule place d p))

fields_fine : (names : Declared) (n h : ℕ) → InsideFine names n → h ≤ suc n → (rules : List Rule) → AllByRecursion (λ rule. IsBelow h (objects_of rule.form)) rules → (place : Place) (d : Data) → ArePassed names (fields_of (visits n) rules place d) → AllByRecursion (EntersFine names) (fields_of (visits n) rules place d)
unfolding fields_of
fields_fine names n h inside l [] b place d p = tt
fields_fine names n h inside l (rule ∷ rules) b place d p =
    each-append (EntersFine names) (field_visits (visits n) rule place d) (fields_of (visits n) rules place d)
    (field_fine names n h inside l rule b.0 place d (passed_front names (field_visits (visits n) rule place d) (fields_of (visits n) rules place d) p))
    (fields_fine names n h inside l rules b.1 place d (passed_back names (field_visits (visits n) rule place d) (fields_of (visits n) rules place d) p))

agent_fine : (names : Declared) (n : ℕ) (place : Place) (d : Data) → 2 ≤ suc n → ArePassed names (visits (suc n) object.Agent place d) → IsFineAgent names d
agent_fine names zero place d l p = absurd (omega arith)
agent_fine names (suc n) place d l p = fine_agent names n place d p

enter_fine : (names : Declared) (n : ℕ) (kind : ObjectKind) (place : Place) (d : Data) → height kind ≤ suc n → ArePassed names (visits (suc n) kind place d) → EntersFine names (enters kind place d)
enter_fine names n object.Message place d l p = named_field _ d (get (codes "name") d) (fine_try names n object.Message 0 place d (omega arith) p).0
enter_fine names n object.Dispatcher place d l p = fine_disp names n place d p
enter_fine names n object.Coop place d l p = fine_coop names n place d p
enter_fine names n object.Agent place d l p = agent_fine names n place d l p
enter_fine names n other place d l p = tt

visits_fine : (names : Declared) (n : ℕ) → InsideFine names n
unfolding visits
visits_fine names zero kind place d l p = tt
visits_fine names (suc n) kind place d l p = (
  enter_fine names n kind place d l p,
  each-append (EntersFine names) (inner n kind place d) (leaves kind place d ∷ [])
      (fields_fine names n (height kind) (visits_fine names n) l (rules_of kind) (rules_below kind) place d (passed_fields names n kind place d p))
      (tt, tt),
)

pub scene_fine : (names : Declared) (d : Data) → ArePassed names (visits 4 object.Scene [] d) → AllByRecursion (EntersFine names) (visits 4 object.Scene [] d)
scene_fine names d p = visits_fine names 4 object.Scene [] d (omega arith) p

-- ---- how many messages, names of mboxes, dispatchers and cooperations there are

abbrev pub total : (Visit → ℕ) → List Visit → ℕ
total m [] = 0
total m (v ∷ vs) = m v + total m vs

total-append : (m : Visit → ℕ) (vs us : List Visit) → total m (vs ++ us) ≡ total m vs + total m us
total-append m [] us = omega arith
total-append m (v ∷ vs) us = omega (arith, total-append m vs us)

abbrev pub is_message : Visit → ℕ
is_message (enters object.Message place d) = 1
is_message (enters other place d) = 0
is_message (tries rule place d found) = 0
is_message (leaves kind place d) = 0

abbrev pub is_dispatcher : Visit → ℕ
is_dispatcher (enters object.Dispatcher place d) = 1
is_dispatcher (enters other place d) = 0
is_dispatcher (tries rule place d found) = 0
is_dispatcher (leaves kind place d) = 0

abbrev pub is_coop : Visit → ℕ
is_coop (enters object.Coop place d) = 1
is_coop (enters other place d) = 0
is_coop (tries rule place d found) = 0
is_coop (leaves kind place d) = 0

abbrev pub mboxes_in_field : Form → Option Data → ℕ
mboxes_in_field (form.Mboxes limit) found = items_len (list_of found)
mboxes_in_field other found = 0

abbrev pub mboxes_named : Visit → ℕ
mboxes_named (enters kind place d) = 0
mboxes_named (tries rule place d found) = mboxes_in_field rule.form found
mboxes_named (leaves kind place d) = 0

-- a field that names no mboxes, and an object that is no scene, no message, no dispatcher and no cooperation
abbrev NamesNone : Form → Type 0
NamesNone (form.Mboxes limit) = ⊥
NamesNone other = Unit {0}

abbrev IsQuiet : ObjectKind → Type 0
IsQuiet object.Scene = ⊥
IsQuiet object.Message = ⊥
IsQuiet object.Dispatcher = ⊥
IsQuiet object.Coop = ⊥
IsQuiet other = Unit {0}

abbrev AreQuiet : Option ObjectKind → Type 0
AreQuiet None = Unit {0}
AreQuiet (Some kind) = IsQuiet kind

-- what counts messages, names of mboxes, dispatchers or cooperations
record Counts (m : Visit → ℕ) : Type 0 where
  entering : (kind : ObjectKind) (place : Place) (d : Data) → IsQuiet kind → m (enters kind place d) ≡ 0
  scene : (place : Place) (d : Data) → m (enters object.Scene place d) ≡ 0
  trying : (rule : Rule) (place : Place) (d : Data) (found : Option Data) → NamesNone rule.form → m (tries rule place d found) ≡ 0
  leaving : (kind : ObjectKind) (place : Place) (d : Data) → m (leaves kind place d) ≡ 0

abbrev QuietRule : Rule → Type 0
QuietRule rule = NamesNone rule.form × AreQuiet (objects_of rule.form)

quiet_rules : (kind : ObjectKind) → IsQuiet kind → AllByRecursion QuietRule (rules_of kind)
quiet_rules object.Scene q = absurd q
quiet_rules object.Message q = absurd q
quiet_rules object.Dispatcher q = absurd q
quiet_rules object.Coop q = absurd q
quiet_rules object.Agent q = ((tt, tt), ((tt, tt), ((tt, tt), ((tt, tt), ((tt, tt), ((tt, tt), ((tt, tt), ((tt, tt), ((tt, tt), ((tt, tt), ((tt, tt), ((tt, tt), ((tt, tt), tt)))))))))))))
quiet_rules object.State q = ((tt, tt), ((tt, tt), ((tt, tt), ((tt, tt), ((tt, tt), ((tt, tt), ((tt, tt), tt)))))))
quiet_rules object.Filter q = ((tt, tt), ((tt, tt), ((tt, tt), ((tt, tt), ((tt, tt), ((tt, tt), ((tt, tt), tt)))))))
quiet_rules object.Row q = ((tt, tt), ((tt, tt), ((tt, tt), ((tt, tt), ((tt, tt), ((tt, tt), ((tt, tt), ((tt, tt), ((tt, tt), ((tt, tt), ((tt, tt), tt)))))))))))

none_in_items : (m : Visit → ℕ) (inside : Place → Data → List Visit) → ((place : Place) (d : Data) → total m (inside place d) ≡ 0) → (place : Place) (i : ℕ) (ds : Items) → total m (items_from inside place i ds) ≡ 0
unfolding items_from
none_in_items m inside h place i no_items = refl
none_in_items m inside h place i (item d ds) = omega (arith, total-append m (inside (at_item place i) d) (items_from inside place (suc i) ds), h (at_item place i) d, none_in_items m inside h place (suc i) ds)

one_in_items : (m : Visit → ℕ) (inside : Place → Data → List Visit) → ((place : Place) (d : Data) → total m (inside place d) ≡ 1) → (place : Place) (i : ℕ) (ds : Items) → total m (items_from inside place i ds) ≡ items_len ds
unfolding items_from
one_in_items m inside h place i no_items = refl
one_in_items m inside h place i (item d ds) = omega (arith, total-append m (inside (at_item place i) d) (items_from inside place (suc i) ds), h (at_item place i) d, one_in_items m inside h place (suc i) ds)

abbrev NoneInside : (Visit → ℕ) → ℕ → Type 0
NoneInside m n = (kind : ObjectKind) (place : Place) (d : Data) → IsQuiet kind → total m (visits n kind place d) ≡ 0

none_in_objects : (m : Visit → ℕ) (n : ℕ) → NoneInside m n → (o : Option ObjectKind) → AreQuiet o → (place : Place) (found : Option Data) → total m (in_objects (visits n) o place found) ≡ 0
none_in_objects m n h None q place found = refl
none_in_objects m n h (Some kind) q place found = none_in_items m (visits n kind) (λ at d. h kind at d q) place 0 (list_of found)

total_field : (m : Visit → ℕ) (inside : ObjectKind → Place → Data → List Visit) (rule : Rule) (place : Place) (d : Data)
    → total m (field_visits inside rule place d) ≡ m (tries rule (at_key place rule) d (found_in rule d)) + total m (in_objects inside (objects_of rule.form) (at_key place rule) (found_in rule d))
unfolding field_visits
total_field m inside rule place d = refl

total_fields : (m : Visit → ℕ) (inside : ObjectKind → Place → Data → List Visit) (rule : Rule) (rules : List Rule) (place : Place) (d : Data)
    → total m (fields_of inside (rule ∷ rules) place d) ≡ total m (field_visits inside rule place d) + total m (fields_of inside rules place d)
unfolding fields_of
total_fields m inside rule rules place d = total-append m (field_visits inside rule place d) (fields_of inside rules place d)

none_in_field : (m : Visit → ℕ) → Counts m → (n : ℕ) → NoneInside m n → (rule : Rule) → QuietRule rule → (place : Place) (d : Data) → total m (field_visits (visits n) rule place d) ≡ 0
none_in_field m c n h rule q place d =
    omega (arith, total_field m (visits n) rule place d, c.trying rule (at_key place rule) d (found_in rule d) q.0, none_in_objects m n h (objects_of rule.form) q.1 (at_key place rule) (found_in rule d))

none_in_fields : (m : Visit → ℕ) → Counts m → (n : ℕ) → NoneInside m n → (rules : List Rule) → AllByRecursion QuietRule rules → (place : Place) (d : Data) → total m (fields_of (visits n) rules place d) ≡ 0
unfolding fields_of
none_in_fields m c n h [] q place d = refl
none_in_fields m c n h (rule ∷ rules) q place d =
    omega (arith, total-append m (field_visits (visits n) rule place d) (fields_of (visits n) rules place d), none_in_field m c n h rule q.0 place d, none_in_fields m c n h rules q.1 place d)

total_object : (m : Visit → ℕ) → Counts m → (n : ℕ) (kind : ObjectKind) (place : Place) (d : Data) → total m (visits (suc n) kind place d) ≡ m (enters kind place d) + total m (inner n kind place d)
unfolding visits
total_object m c n kind place d = omega (arith, total-append m (inner n kind place d) (leaves kind place d ∷ []), c.leaving kind place d)

none_at_all : (m : Visit → ℕ) (kind : ObjectKind) (place : Place) (d : Data) → total m (visits zero kind place d) ≡ 0
unfolding visits
none_at_all m kind place d = refl

none_in_visits : (m : Visit → ℕ) → Counts m → (n : ℕ) → NoneInside m n
none_in_visits m c zero kind place d q = none_at_all m kind place d
none_in_visits m c (suc n) kind place d q =
    omega (arith, total_object m c n kind place d, c.entering kind place d q, none_in_fields m c n (none_in_visits m c n) (rules_of kind) (quiet_rules kind q) place d)

in_message : (m : Visit → ℕ) → Counts m → (n : ℕ) (place : Place) (d : Data) → total m (visits (suc n) object.Message place d) ≡ m (enters object.Message place d)
in_message m c n place d = omega (arith, total_object m c n object.Message place d, none_in_fields m c n (none_in_visits m c n) (rules_of object.Message) ((tt, tt), ((tt, tt), tt)) place d)

in_dispatcher : (m : Visit → ℕ) → Counts m → (n : ℕ) (place : Place) (d : Data) → total m (visits (suc n) object.Dispatcher place d) ≡ m (enters object.Dispatcher place d)
in_dispatcher m c n place d =
    omega (arith, total_object m c n object.Dispatcher place d, none_in_fields m c n (none_in_visits m c n) (rules_of object.Dispatcher) ((tt, tt), ((tt, tt), ((tt, tt), ((tt, tt), ((tt, tt), ((tt, tt), tt)))))) place d)

in_coop : (m : Visit → ℕ) → Counts m → (n : ℕ) (place : Place) (d : Data) → total m (visits (suc n) object.Coop place d) ≡ m (enters object.Coop place d)
in_coop m c n place d =
    omega (arith, total_object m c n object.Coop place d, none_in_fields m c n (none_in_visits m c n) (rules_of object.Coop) ((tt, tt), ((tt, tt), ((tt, tt), ((tt, tt), ((tt, tt), tt))))) place d)

messages_rule : Rule
messages_rule = optional field.Messages (form.Objects object.Message (Some 256))

mboxes_rule : Rule
mboxes_rule = optional field.Mboxes (form.Mboxes 256)

dispatchers_rule : Rule
dispatchers_rule = optional field.Dispatchers (form.Objects object.Dispatcher (Some 63))

coops_rule : Rule
coops_rule = optional field.Coops (form.Objects object.Coop (Some 1024))

-- the fields of a scene before its messages, after its mboxes, and after its cooperations
first_rules : List Rule
first_rules = required field.Version form.One ∷ optional field.Autoshutdown form.Flag ∷ later field.Reaction ∷ []

middle_rules : List Rule
middle_rules = later field.Chains ∷ []

last_rules : List Rule
last_rules = later field.Threads ∷ []

total_rules : (m : Visit → ℕ) (inside : ObjectKind → Place → Data → List Visit) (rules more : List Rule) (place : Place) (d : Data) → total m (fields_of inside (rules ++ more) place d) ≡ total m (fields_of inside rules place d) + total m (fields_of inside more place d)
unfolding fields_of
total_rules m inside [] more place d = omega arith
total_rules m inside (rule ∷ rules) more place d =
    omega (arith, total-append m (field_visits inside rule place d) (fields_of inside (rules ++ more) place d), total-append m (field_visits inside rule place d) (fields_of inside rules place d), total_rules m inside rules more place d)

total_scene : (m : Visit → ℕ) → Counts m → (d : Data) → total m (visits 4 object.Scene [] d) ≡ total m (items_from (visits 3 object.Message) (at_key [] messages_rule) 0 (list_of (get (codes "messages") d))) + m (tries mboxes_rule (at_key [] mboxes_rule) d (get (codes "mboxes") d))
    + (total m (items_from (visits 3 object.Dispatcher) (at_key [] dispatchers_rule) 0 (list_of (get (codes "dispatchers") d))) + total m (items_from (visits 3 object.Coop) (at_key [] coops_rule) 0 (list_of (get (codes "coops") d))))
unfolding first_rules middle_rules last_rules messages_rule mboxes_rule dispatchers_rule coops_rule
total_scene m c d =
    let quiet = none_in_visits m c 3 in
    omega (
      arith,
      total_object m c 3 object.Scene [] d,
      c.scene [] d,
      total_rules m (visits 3) first_rules (messages_rule ∷ mboxes_rule ∷ (middle_rules ++ dispatchers_rule ∷ coops_rule ∷ last_rules)) [] d,
      none_in_fields m c 3 quiet first_rules ((tt, tt), ((tt, tt), ((tt, tt), tt))) [] d,
      total_fields m (visits 3) messages_rule (mboxes_rule ∷ (middle_rules ++ dispatchers_rule ∷ coops_rule ∷ last_rules)) [] d,
      total_field m (visits 3) messages_rule [] d,
      c.trying messages_rule (at_key [] messages_rule) d (get (codes "messages") d) tt,
      total_fields m (visits 3) mboxes_rule (middle_rules ++ dispatchers_rule ∷ coops_rule ∷ last_rules) [] d,
      total_field m (visits 3) mboxes_rule [] d,
      total_rules m (visits 3) middle_rules (dispatchers_rule ∷ coops_rule ∷ last_rules) [] d,
      none_in_fields m c 3 quiet middle_rules ((tt, tt), tt) [] d,
      total_fields m (visits 3) dispatchers_rule (coops_rule ∷ last_rules) [] d,
      total_field m (visits 3) dispatchers_rule [] d,
      c.trying dispatchers_rule (at_key [] dispatchers_rule) d (get (codes "dispatchers") d) tt,
      total_fields m (visits 3) coops_rule last_rules [] d,
      total_field m (visits 3) coops_rule [] d,
      c.trying coops_rule (at_key [] coops_rule) d (get (codes "coops") d) tt,
      none_in_fields m c 3 quiet last_rules ((tt, tt), tt) [] d,
    )

message_quiet : (kind : ObjectKind) (place : Place) (d : Data) → IsQuiet kind → is_message (enters kind place d) ≡ 0
message_quiet object.Message place d q = absurd q
message_quiet other place d q = refl

dispatcher_quiet : (kind : ObjectKind) (place : Place) (d : Data) → IsQuiet kind → is_dispatcher (enters kind place d) ≡ 0
dispatcher_quiet object.Dispatcher place d q = absurd q
dispatcher_quiet other place d q = refl

coop_quiet : (kind : ObjectKind) (place : Place) (d : Data) → IsQuiet kind → is_coop (enters kind place d) ≡ 0
coop_quiet object.Coop place d q = absurd q
coop_quiet other place d q = refl

no_mboxes : (f : Form) (found : Option Data) → NamesNone f → mboxes_in_field f found ≡ 0
no_mboxes (form.Mboxes limit) found q = absurd q
no_mboxes other found q = refl

counts_messages : Counts is_message
counts_messages = record { entering = message_quiet; scene = λ place d. refl; trying = λ rule place d found q. refl; leaving = λ kind place d. refl }

counts_mboxes : Counts mboxes_named
counts_mboxes = record { entering = λ kind place d q. refl; scene = λ place d. refl; trying = λ rule place d found q. no_mboxes rule.form found q; leaving = λ kind place d. refl }

counts_dispatchers : Counts is_dispatcher
counts_dispatchers = record { entering = dispatcher_quiet; scene = λ place d. refl; trying = λ rule place d found q. refl; leaving = λ kind place d. refl }

counts_coops : Counts is_coop
counts_coops = record { entering = coop_quiet; scene = λ place d. refl; trying = λ rule place d found q. refl; leaving = λ kind place d. refl }

limited_coops : (names : Declared) (d : Data) → ArePassed names (visits 4 object.Scene [] d) → items_len (list_of (get (codes "coops") d)) ≤ 1024
limited_coops names d p = limit_objects field.Coops object.Coop 1024 _ d (get (codes "coops") d) (fine_try names 3 object.Scene 7 [] d (omega arith) p).0

limited_dispatchers : (names : Declared) (d : Data) → ArePassed names (visits 4 object.Scene [] d) → items_len (list_of (get (codes "dispatchers") d)) ≤ 63
limited_dispatchers names d p = limit_objects field.Dispatchers object.Dispatcher 63 _ d (get (codes "dispatchers") d) (fine_try names 3 object.Scene 6 [] d (omega arith) p).0

limited_messages : (names : Declared) (d : Data) → ArePassed names (visits 4 object.Scene [] d) → items_len (list_of (get (codes "messages") d)) ≤ 256
limited_messages names d p = limit_objects field.Messages object.Message 256 _ d (get (codes "messages") d) (fine_try names 3 object.Scene 3 [] d (omega arith) p).0

limited_mboxes : (names : Declared) (d : Data) → ArePassed names (visits 4 object.Scene [] d) → items_len (list_of (get (codes "mboxes") d)) ≤ 256
limited_mboxes names d p = limit_mboxes field.Mboxes 256 _ d (get (codes "mboxes") d) (fine_try names 3 object.Scene 4 [] d (omega arith) p).0

pub few_messages : (names : Declared) (d : Data) → ArePassed names (visits 4 object.Scene [] d) → total is_message (visits 4 object.Scene [] d) ≤ 256
unfolding messages_rule mboxes_rule dispatchers_rule coops_rule
few_messages names d p =
    omega (
      arith,
      total_scene is_message counts_messages d,
      one_in_items is_message (visits 3 object.Message) (in_message is_message counts_messages 2) (at_key [] messages_rule) 0 (list_of (get (codes "messages") d)),
      none_in_items is_message (visits 3 object.Dispatcher) (in_dispatcher is_message counts_messages 2) (at_key [] dispatchers_rule) 0 (list_of (get (codes "dispatchers") d)),
      none_in_items is_message (visits 3 object.Coop) (in_coop is_message counts_messages 2) (at_key [] coops_rule) 0 (list_of (get (codes "coops") d)),
      limited_messages names d p,
    )

pub few_mboxes : (names : Declared) (d : Data) → ArePassed names (visits 4 object.Scene [] d) → total mboxes_named (visits 4 object.Scene [] d) ≤ 256
unfolding messages_rule mboxes_rule dispatchers_rule coops_rule
few_mboxes names d p =
    omega (
      arith,
      total_scene mboxes_named counts_mboxes d,
      none_in_items mboxes_named (visits 3 object.Message) (in_message mboxes_named counts_mboxes 2) (at_key [] messages_rule) 0 (list_of (get (codes "messages") d)),
      none_in_items mboxes_named (visits 3 object.Dispatcher) (in_dispatcher mboxes_named counts_mboxes 2) (at_key [] dispatchers_rule) 0 (list_of (get (codes "dispatchers") d)),
      none_in_items mboxes_named (visits 3 object.Coop) (in_coop mboxes_named counts_mboxes 2) (at_key [] coops_rule) 0 (list_of (get (codes "coops") d)),
      limited_mboxes names d p,
    )

pub few_dispatchers : (names : Declared) (d : Data) → ArePassed names (visits 4 object.Scene [] d) → total is_dispatcher (visits 4 object.Scene [] d) ≤ 63
unfolding messages_rule mboxes_rule dispatchers_rule coops_rule
few_dispatchers names d p =
    omega (
      arith,
      total_scene is_dispatcher counts_dispatchers d,
      none_in_items is_dispatcher (visits 3 object.Message) (in_message is_dispatcher counts_dispatchers 2) (at_key [] messages_rule) 0 (list_of (get (codes "messages") d)),
      one_in_items is_dispatcher (visits 3 object.Dispatcher) (in_dispatcher is_dispatcher counts_dispatchers 2) (at_key [] dispatchers_rule) 0 (list_of (get (codes "dispatchers") d)),
      none_in_items is_dispatcher (visits 3 object.Coop) (in_coop is_dispatcher counts_dispatchers 2) (at_key [] coops_rule) 0 (list_of (get (codes "coops") d)),
      limited_dispatchers names d p,
    )

pub few_coops : (names : Declared) (d : Data) → ArePassed names (visits 4 object.Scene [] d) → total is_coop (visits 4 object.Scene [] d) ≤ 1024
unfolding messages_rule mboxes_rule dispatchers_rule coops_rule
few_coops names d p =
    omega (
      arith,
      total_scene is_coop counts_coops d,
      none_in_items is_coop (visits 3 object.Message) (in_message is_coop counts_coops 2) (at_key [] messages_rule) 0 (list_of (get (codes "messages") d)),
      none_in_items is_coop (visits 3 object.Dispatcher) (in_dispatcher is_coop counts_coops 2) (at_key [] dispatchers_rule) 0 (list_of (get (codes "dispatchers") d)),
      one_in_items is_coop (visits 3 object.Coop) (in_coop is_coop counts_coops 2) (at_key [] coops_rule) 0 (list_of (get (codes "coops") d)),
      limited_coops names d p,
    )
