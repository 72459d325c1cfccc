-- What is read has numbers of 64 bits, and so has every part of it.
use Rattle.std.proofs.Common.{◌≡◌, ℕ, zero, suc, ◌^◌, ℤ, pos, List, [], ◌∷◌, Bool, true, false, nat_lt, if◌then◌else◌, Option, Some, None, option_map, bytes_eq, codes, Ordering, Less, Equal, Greater, nat_cmp, refl}
use Rattle.std.specs.List.{AllByRecursion}
use Rattle.std.specs.Cmp.Lexicographic.{slice_cmp}
use Rattle.std.specs.Ordering.{match_ordering}
use Rattle.serde_json.specs.Data.{Num, unsigned, negative, float, Data, null, boolean, number, string, array, object, Items, no_items, item, Members, no_members, member}
use Rattle.serde_json.specs.Find.{get, get_member, get_item, as_i64}
use Rattle.serde_json.specs.Read.{read}
use Rattle.so_code.specs.declared.instr.Operand.{Operand}
use Rattle.so_code.specs.declared.instr.Operand.TheVariants as operand
use Rattle.so_fault.specs.Faults.{spelling}
use Rattle.so_scene.specs.Written.{IsNumber, IsWrittenOperand}
use Rattle.so_scene_fields.specs.declared.values.Trouble.{Trouble}
use Rattle.so_scene_fields.specs.declared.values.Trouble.TheVariants.{OutOfRange, WrongShape}
use Rattle.so_scene_fields.specs.Values.{◌else◌, ◌or◌, ok_or, read_or, integer_of, numbered, operand_named, operand_of}
use Rattle.so_scene_fields.specs.declared.table.ObjectKind.{ObjectKind}
use Rattle.so_scene_fields.specs.declared.table.Rule.{Rule}
use Rattle.so_scene_fields.specs.Numbers.{IsNum, HasNumbers, HaveNumbers, MembersHaveNumbers, EntersNumbers}
use Rattle.so_scene_fields.specs.Table.{rules_of, objects_of}
use Rattle.so_scene_fields.specs.Visits.{Visit, leaves, Place, visits, fields_of, field_visits, in_objects, items_from, at_item, at_key, list_of, listed}
use Rattle.so_lists.proofs.Filters.{each-append}

abbrev pub OnSome : {X : Type 0} → (X → Type 0) → Option X → Type 0
OnSome P None = Unit {0}
OnSome P (Some x) = P x

pub mapped : {X Y : Type 0} (P : X → Type 0) (Q : Y → Type 0) (f : X → Y) (o : Option X) → ((x : X) → P x → Q (f x)) → OnSome P o → OnSome Q (option_map f o)
mapped P Q f None h k = tt
mapped P Q f (Some x) h k = h x k

-- ---- parts of a value

found_member : (o : Ordering) (a b c : Option Data) → OnSome HasNumbers a → OnSome HasNumbers b → OnSome HasNumbers c → OnSome HasNumbers (match_ordering o a b c)
found_member Less a b c h k l = h
found_member Equal a b c h k l = k
found_member Greater a b c h k l = l

member_numbers : (k : List ℕ) (ms : Members) → MembersHaveNumbers ms → OnSome HasNumbers (get_member k ms)
member_numbers k no_members h = tt
member_numbers k (member l e ms) h = found_member (slice_cmp nat_cmp k l) (get_member k ms) (Some e) (get_member k ms) (member_numbers k ms h.1) h.0 (member_numbers k ms h.1)

pub get_numbers : (k : List ℕ) (d : Data) → HasNumbers d → OnSome HasNumbers (get k d)
get_numbers k null h = tt
get_numbers k (boolean b) h = tt
get_numbers k (number n) h = tt
get_numbers k (string s) h = tt
get_numbers k (array ds) h = tt
get_numbers k (object ms) h = member_numbers k ms h

pub item_numbers : (i : ℕ) (ds : Items) → HaveNumbers ds → OnSome HasNumbers (get_item i ds)
item_numbers i no_items h = tt
item_numbers zero (item d ds) h = h.0
item_numbers (suc i) (item d ds) h = item_numbers i ds h.1

pub list_numbers : (o : Option Data) → OnSome HasNumbers o → HaveNumbers (list_of o)
list_numbers None h = tt
list_numbers (Some null) h = tt
list_numbers (Some (boolean b)) h = tt
list_numbers (Some (number n)) h = tt
list_numbers (Some (string s)) h = tt
list_numbers (Some (array ds)) h = h
list_numbers (Some (object ms)) h = tt

pub each_numbers : (ds : Items) → HaveNumbers ds → AllByRecursion HasNumbers (listed ds)
each_numbers no_items h = tt
each_numbers (item d ds) h = (h.0, each_numbers ds h.1)

-- ---- what a number stands for

pos_fits : (b : Bool) (n : ℕ) → nat_lt n (2 ^ 63) ≡ b → OnSome IsNumber (if b then Some (pos n) else None)
pos_fits true n e = e
pos_fits false n e = tt

num_fits : (n : Num) → IsNum n → OnSome IsNumber (as_i64 n)
num_fits (unsigned n) h = pos_fits (nat_lt n (2 ^ 63)) n refl
num_fits (negative z) h = h
num_fits (float x) h = tt

or_zero : (o : Option ℤ) → OnSome IsNumber o → IsNumber (ok_or (pos 0) (o else OutOfRange))
or_zero None h = refl
or_zero (Some z) h = h

integer_fits : (d : Data) → HasNumbers d → IsNumber (ok_or (pos 0) (integer_of d))
integer_fits null h = refl
integer_fits (boolean b) h = refl
integer_fits (number n) h = or_zero (as_i64 n) (num_fits n h)
integer_fits (string s) h = refl
integer_fits (array ds) h = refl
integer_fits (object ms) h = refl

pub number_read : (o : Option Data) → OnSome HasNumbers o → IsNumber (read_or (pos 0) integer_of o)
number_read None h = refl
number_read (Some d) h = integer_fits d h

-- ---- operands

or_operand : (o : Option Operand) (t : Trouble) → OnSome IsWrittenOperand o → IsWrittenOperand (ok_or (operand.Num (pos 0)) (o else t))
or_operand None t h = refl
or_operand (Some a) t h = h

first_or : {X : Type 0} (P : X → Type 0) (a b : Option X) → OnSome P a → OnSome P b → OnSome P (a or b)
first_or P None b h k = k
first_or P (Some x) b h k = h

ans_fits : (b : Bool) → OnSome IsWrittenOperand (if b then Some operand.Ans else None)
ans_fits true = tt
ans_fits false = tt

unnumbered : (f : ℕ → Operand) (o : Option ℕ) → ((n : ℕ) → IsWrittenOperand (f n)) → OnSome IsWrittenOperand (option_map f o)
unnumbered f None h = tt
unnumbered f (Some n) h = h n

word_fits : (text : List ℕ) → OnSome IsWrittenOperand (operand_named text)
word_fits text =
    first_or IsWrittenOperand _ _
    (first_or IsWrittenOperand _ _
    (first_or IsWrittenOperand _ _ (unnumbered operand.Var (numbered 118 16 text) (λ n. tt)) (unnumbered operand.Msg (numbered 109 4 text) (λ n. tt)))
    (unnumbered operand.Temp (numbered 116 4 text) (λ n. tt)))
    (ans_fits (bytes_eq text (codes "ans")))

operand_fits : (d : Data) → HasNumbers d → IsWrittenOperand (ok_or (operand.Num (pos 0)) (operand_of d))
operand_fits null h = refl
operand_fits (boolean b) h = refl
operand_fits (number n) h = or_operand (option_map operand.Num (as_i64 n)) OutOfRange (mapped IsNumber IsWrittenOperand operand.Num (as_i64 n) (λ z k. k) (num_fits n h))
operand_fits (string s) h = or_operand (operand_named s) WrongShape (word_fits s)
operand_fits (array ds) h = refl
operand_fits (object ms) h = refl

pub operand_read : (o : Option Data) → OnSome HasNumbers o → IsWrittenOperand (read_or (operand.Num (pos 0)) operand_of o)
operand_read None h = refl
operand_read (Some d) h = operand_fits d h

-- ---- the objects of a document

items_visits : (inside : Place → Data → List Visit) → ((place : Place) (d : Data) → HasNumbers d → AllByRecursion EntersNumbers (inside place d)) → (place : Place) (i : ℕ) (ds : Items) → HaveNumbers ds → AllByRecursion EntersNumbers (items_from inside place i ds)
unfolding items_from
items_visits inside h place i no_items n = tt
items_visits inside h place i (item d ds) n = each-append EntersNumbers (inside (at_item place i) d) (items_from inside place (suc i) ds) (h (at_item place i) d n.0) (items_visits inside h place (suc i) ds n.1)

-- what holds of the visits of each object inside holds of all of them
abbrev InsideNumbers : (ObjectKind → Place → Data → List Visit) → Type 0
InsideNumbers inside = (kind : ObjectKind) (place : Place) (d : Data) → HasNumbers d → AllByRecursion EntersNumbers (inside kind place d)

objects_visits : (inside : ObjectKind → Place → Data → List Visit) → InsideNumbers inside → (o : Option ObjectKind) (place : Place) (found : Option Data) → OnSome HasNumbers found → AllByRecursion EntersNumbers (in_objects inside o place found)
objects_visits inside h None place found n = tt
objects_visits inside h (Some kind) place found n = items_visits (inside kind) (h kind) place 0 (list_of found) (list_numbers found n)

fields_visits : (inside : ObjectKind → Place → Data → List Visit) → InsideNumbers inside → (rules : List Rule) (place : Place) (d : Data) → HasNumbers d → AllByRecursion EntersNumbers (fields_of inside rules place d)
unfolding fields_of field_visits
fields_visits inside h [] place d n = tt
fields_visits inside h (rule ∷ rules) place d n =
    each-append EntersNumbers (field_visits inside rule place d) (fields_of inside rules place d)
    (tt, objects_visits inside h (objects_of rule.form) (at_key place rule) (get (spelling rule.field) d) (get_numbers (spelling rule.field) d n))
    (fields_visits inside h rules place d n)

pub visits_numbers : (n : ℕ) → InsideNumbers (visits n)
unfolding visits
visits_numbers zero kind place d h = tt
visits_numbers (suc n) kind place d h = (h, each-append EntersNumbers (fields_of (visits n) (rules_of kind) place d) (leaves kind place d ∷ []) (fields_visits (visits n) (visits_numbers n) (rules_of kind) place d h) (tt, tt))
