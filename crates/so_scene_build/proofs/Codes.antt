-- What the building writes is the code of an agent.
use Rattle.std.proofs.Common.{◌≡◌, ℕ, zero, suc, ◌+◌, ◌-◌, ◌<◌, ◌≤◌, ◌^◌, ℤ, pos, negsuc, List, [], ◌∷◌, ◌++◌, length, Bool, true, false, ◌||◌, Option, Some, None, Result, Ok, Err, refl, sym, ap, ◌∙◌, subst, arith, inl, length-append, append_assoc, if◌then◌else◌, nat_le, nat_lt, is_some, get_or}
use Rattle.std.proofs.Math.Nat.{min-le_left, min-le_right}
use Rattle.std.proofs.lemmas.Bool.{leb-true, ltb-true, ltb-false, true≢false}
use Rattle.std.proofs.lemmas.List.Quantifiers.{position-Some}
use Rattle.std.specs.Prelude.{slice_get, bytes_eq, map, codes}
use Rattle.std.specs.List.Sorted.{IsStrictlyIncreasing}
use Rattle.std.specs.List.{AllByRecursion}
use Rattle.std.specs.Option.{option_map, option_and_then}
use Rattle.serde_json.specs.Data.{Num, Data, Items, no_items, item}
use Rattle.serde_json.specs.Events.{items_len}
use Rattle.serde_json.specs.Find.{as_number, as_i64, as_str, get, get_item}
use Rattle.so_code.specs.declared.instr.Operand.TheVariants as operand
use Rattle.so_code.specs.declared.instr.Dest.TheVariants as dest
use Rattle.so_code.specs.declared.instr.Instr.{Instr}
use Rattle.so_code.specs.declared.instr.Instr.TheVariants as instr
use Rattle.so_code.specs.Valid.{IsOperand, IsDest, AreArgs}
use Rattle.so_code.specs.declared.instr.Args.{Args}
use Rattle.so_code.specs.declared.instr.Body.{Body}
use Rattle.so_code.specs.declared.instr.Body.TheVariants as body
use Rattle.so_code.specs.Bodies.{bodies_in}
use Rattle.so_code.specs.Shape.{IsActBefore, AreActsBefore, WholeBody, plain, acts_code, flatten, may_switch, IsWholeBody, IsCode, AreInOrder, AreAgentBodies, body_of, agent_bodies, state_bodies, row_number as number_of_row}
use Rattle.so_code.proofs.BuildLaws.{structured, plain_code, plain_acts, bodies_in-flatten}
use Rattle.so_lists.specs.Lists.{given_after}
use Rattle.so_lists.proofs.Filters.{each-append, each-weaker}
use Rattle.so_lists.proofs.Given.{given-append, given-old, given-next}
use Rattle.so_scene.specs.Words.{is_text}
use Rattle.so_scene.specs.Written.{may_be_safe}
use Rattle.so_scene_fields.specs.Acts.{act_parts}
use Rattle.so_scene_fields.specs.ActTable.{is_safe_act, is_allowed, handler_acts}
use Rattle.so_scene_build.specs.Build.{body_written, start_written, state_written, states_written, row_body, handler_written, rows_written, agent_written, is_long}
use Rattle.std.proofs.lemmas.List.{append-nil}
use Rattle.so_scene.specs.Names.{number_in}
use Rattle.so_ids.specs.declared.CoopId.{CoopId}
use Rattle.so_ids.specs.declared.FilterId.{FilterId}
use Rattle.so_ids.specs.declared.RowId.{RowId}
use Rattle.so_ids.specs.declared.StateId.{StateId}
use Rattle.so_ids.specs.declared.Target.{Target}
use Rattle.so_ids.specs.declared.Target.TheVariants.{Mbox, Chain}
use Rattle.so_scene.specs.Checked.{Named, IsTarget, HasId, NamesWithin, row_number, text_uses}
use Rattle.so_scene_passes.specs.declared.scope.Scope.{Scope}
use Rattle.so_scene_fields.specs.declared.table.Space.TheVariants as space
use Rattle.so_scene_build.specs.Kept.{named_among}
use Rattle.so_scene_passes.specs.Scope.{is_id, number_with, state_items, row_items, all_states, state_number}
use Rattle.so_scene_passes.specs.Twice.{names_in}
use Rattle.so_scene_fields.specs.declared.act_table.Allowed.{Allowed}
use Rattle.so_scene_fields.specs.declared.act_table.Allowed.TheVariants.{AnyAct, NoSwitch, Safe}
use Rattle.so_scene_fields.specs.declared.act_table.Word.{Word}
use Rattle.so_scene_fields.specs.declared.act_table.Word.TheVariants as word
use Rattle.so_scene_fields.specs.declared.values.Trouble.{Trouble}
use Rattle.so_scene_fields.specs.declared.values.Trouble.TheVariants.{OutOfRange}
use Rattle.so_scene_passes.specs.declared.declare.Declared.{Declared}
use Rattle.so_scene_build.specs.declared.code_builder.CodeBuilder.{CodeBuilder}
use Rattle.so_scene_fields.specs.Values.{◌or◌, ◌else◌, ◌then◌, numbered, small_number, operand_named, operand_or_number, operand_of, dest_named, dest_of, named, integer_of, natural_up_to, count_of, ok_or, read_or, is_safe, text_or_empty}
use Rattle.so_scene_fields.specs.Visits.{narrow, list_of}
use Rattle.so_scene_build.specs.CodeBuilder.{operand_at, dest_at, count_at, args_from, send_instr, state_id, state_at, row_id, filter_number, coop_id, row_at, filter_at, coop_at, or_idle, text_at, string_at, texts_with, number_or_next, with_instr, word_written, parts_written, if_allowed, act_written, acts_written, idle}

-- ---- operands

OnSome : {X : Type 0} (P : X → Type 0) → Option X → Type 0
OnSome P None = Unit {0}
OnSome P (Some x) = P x

unfoldable pub OnOk : {X : Type 0} (P : X → Type 0) → Result X Trouble → Type 0
OnOk P (Err t) = Unit {0}
OnOk P (Ok x) = P x

below : (b : Bool) (n limit : ℕ) → nat_lt n limit ≡ b → OnSome (λ k. k < limit) (if b then Some n else None)
unfolding OnSome
below true n limit e = ltb-true n limit e
below false n limit e = tt

and_below : (limit : ℕ) (o : Option ℕ) → OnSome (λ k. k < limit) (option_and_then (λ n. if nat_lt n limit then Some n else None) o)
unfolding OnSome
and_below limit None = tt
and_below limit (Some n) = below (nat_lt n limit) n limit refl

where_letter : (b : Bool) (limit : ℕ) (o : Option ℕ) → OnSome (λ k. k < limit) o → OnSome (λ k. k < limit) (if b then o else None)
unfolding OnSome
where_letter true limit o h = h
where_letter false limit o h = tt

numbered_below : (letter limit : ℕ) (text : List ℕ) → OnSome (λ k. k < limit) (numbered letter limit text)
unfolding numbered OnSome
numbered_below letter limit [] = tt
numbered_below letter limit (c ∷ digits) = where_letter _ limit _ (and_below limit (small_number digits))

mapped : {X Y : Type 0} (P : X → Type 0) (Q : Y → Type 0) (f : X → Y) (o : Option X) → ((x : X) → P x → Q (f x)) → OnSome P o → OnSome Q (option_map f o)
unfolding OnSome
mapped P Q f None h k = tt
mapped P Q f (Some x) h k = h x k

either : {X : Type 0} (P : X → Type 0) (a b : Option X) → OnSome P a → OnSome P b → OnSome P (a or b)
unfolding OnSome
either P None b h k = k
either P (Some x) b h k = h

is_ans : (b : Bool) → OnSome IsOperand (if b then Some operand.Ans else None)
unfolding OnSome
is_ans true = tt
is_ans false = tt

operand_named_fine : (text : List ℕ) → OnSome IsOperand (operand_named text)
operand_named_fine text =
    either IsOperand _ _
    (either IsOperand _ _
    (either IsOperand _ _
    (mapped (λ k. k < 16) IsOperand operand.Var (numbered 118 16 text) (λ k h. h) (numbered_below 118 16 text))
    (mapped (λ k. k < 4) IsOperand operand.Msg (numbered 109 4 text) (λ k h. h) (numbered_below 109 4 text)))
    (mapped (λ k. k < 4) IsOperand operand.Temp (numbered 116 4 text) (λ k h. h) (numbered_below 116 4 text)))
    (is_ans (bytes_eq text _))

dest_named_fine : (text : List ℕ) → OnSome IsDest (dest_named text)
dest_named_fine text =
    either IsDest _ _
    (mapped (λ k. k < 16) IsDest dest.Var (numbered 118 16 text) (λ k h. h) (numbered_below 118 16 text))
    (mapped (λ k. k < 4) IsDest dest.Temp (numbered 116 4 text) (λ k h. h) (numbered_below 116 4 text))

or_trouble : {X : Type 0} (P : X → Type 0) (o : Option X) (t : Trouble) → OnSome P o → OnOk P (o else t)
unfolding OnSome OnOk
or_trouble P None t h = tt
or_trouble P (Some x) t h = h

after_string : {X : Type 0} (P : X → Type 0) (f : List ℕ → Option X) (o : Option (List ℕ)) → ((text : List ℕ) → OnSome P (f text)) → OnSome P (option_and_then f o)
unfolding OnSome
after_string P f None h = tt
after_string P f (Some text) h = h text

named_fine : {X : Type 0} (P : X → Type 0) (f : List ℕ → Option X) (d : Data) → ((text : List ℕ) → OnSome P (f text)) → OnOk P (named f d)
named_fine P f d h = or_trouble P _ _ (after_string P f (as_str d) h)

num_fine : (o : Option ℤ) → OnSome IsOperand (option_map operand.Num o)
unfolding OnSome
num_fine None = tt
num_fine (Some z) = tt

operand_in_fine : (n : Option Num) (d : Data) → OnOk IsOperand (operand_or_number n d)
operand_in_fine None d = named_fine IsOperand operand_named d operand_named_fine
operand_in_fine (Some n) d = or_trouble IsOperand _ _ (num_fine (as_i64 n))

ok_fine : {X : Type 0} (P : X → Type 0) (x : X) (r : Result X Trouble) → P x → OnOk P r → P (ok_or x r)
unfolding OnOk
ok_fine P x (Err t) h k = h
ok_fine P x (Ok y) h k = k

pub read_fine : {X : Type 0} (P : X → Type 0) (x : X) (f : Data → Result X Trouble) (o : Option Data) → P x → ((d : Data) → OnOk P (f d)) → P (read_or x f o)
read_fine P x f None h k = h
read_fine P x f (Some d) h k = ok_fine P x (f d) h (k d)

operand_fine : (i : ℕ) (ds : Items) → IsOperand (operand_at i ds)
operand_fine i ds = read_fine IsOperand (operand.Num (pos 0)) operand_of (get_item i ds) tt (λ d. operand_in_fine (as_number d) d)

dest_fine : (i : ℕ) (ds : Items) → IsDest (dest_at i ds)
dest_fine i ds = read_fine IsDest (dest.Var 0) dest_of (get_item i ds) (omega arith) (λ d. named_fine IsDest dest_named d dest_named_fine)

get_each : {X : Type 0} (P : X → Type 0) (xs : List X) → AllByRecursion P xs → (k : ℕ) (x : X) → slice_get xs k ≡ Some x → P x
get_each P [] a zero x e = absurd cc
get_each P [] a (suc k) x e = absurd cc
get_each P (y ∷ ys) a zero x e = let same : y ≡ x = cc in subst P same a.0
get_each P (y ∷ ys) a (suc k) x e = get_each P ys a.1 k x e

args_fine : (i : ℕ) (ds : Items) → AreArgs (args_from i ds)
args_fine i ds = record {
  each = get_each IsOperand (args_from i ds).list (operand_fine i ds, (operand_fine (i + 1) ds, (operand_fine (i + 2) ds, (operand_fine (i + 3) ds, tt))));
  few = min-le_right (items_len ds - i) 4;
}

nothing : {X : Type 0} (P : X → Type 0) → OnOk P (Err OutOfRange)
unfolding OnOk
nothing P = tt

up_to : (b : Bool) (n limit : ℕ) → nat_le n limit ≡ b → OnOk (λ k. k ≤ limit) (if b then Ok n else Err OutOfRange)
unfolding OnOk
up_to true n limit e = leb-true n limit e
up_to false n limit e = tt

pub natural_fine : (limit : ℕ) (z : ℤ) → OnOk (λ k. k ≤ limit) (natural_up_to limit z)
natural_fine limit (pos n) = up_to (nat_le n limit) n limit refl
natural_fine limit (negsuc n) = nothing (λ k. k ≤ limit)

pub then_fine : {X Y : Type 0} (P : Y → Type 0) (r : Result X Trouble) (f : X → Result Y Trouble) → ((x : X) → OnOk P (f x)) → OnOk P (r then f)
unfolding OnOk
then_fine P (Ok x) f h = h x
then_fine P (Err t) f h = tt

count_fine : (rest i : ℕ) (ds : Items) → count_at rest i ds ≤ rest
count_fine rest i ds =
    let read : read_or 0 (count_of rest) (get_item i ds) ≤ rest = read_fine (λ k. k ≤ rest) 0 (count_of rest) (get_item i ds) (omega arith) (λ d. then_fine (λ k. k ≤ rest) (integer_of d) (natural_up_to rest) (natural_fine rest)) in
    omega (arith, read, min-le_left (read_or 0 (count_of rest) (get_item i ds)) (2 ^ 32 - 1))

-- ---- the texts of a code

pub text_uses-append : (xs ys : List Instr) → text_uses (xs ++ ys) ≡ text_uses xs ++ text_uses ys
text_uses-append [] ys = refl
text_uses-append (instr.Log text args ∷ xs) ys = ap (λ l. text.0 ∷ l) (text_uses-append xs ys)
text_uses-append (other ∷ xs) ys = text_uses-append xs ys

numbers_join : (n k m : ℕ) (xs ys : List Instr) → given_after n (text_uses xs) ≡ Some k → given_after k (text_uses ys) ≡ Some m → given_after n (text_uses (xs ++ ys)) ≡ Some m
numbers_join n k m xs ys e f = ap (given_after n) (text_uses-append xs ys) ∙ (given-append n k (text_uses xs) (text_uses ys) e ∙ f)

-- an instruction that logs nothing
abbrev IsQuiet : Instr → Type 0
IsQuiet i = text_uses (i ∷ []) ≡ []

none_given : (n : ℕ) (i : Instr) → IsQuiet i → given_after n (text_uses (i ∷ [])) ≡ Some n
none_given n i q = ap (given_after n) q

-- ---- one act

-- what the acts of an agent may name, with so many texts
abbrev pub allows : Declared → Scope → ℕ → Named
allows names scope texts = named_among (length names.agents + length names.mboxes) (length names.messages) texts (length names.coops) (length scope.states) scope.rows scope.filters

-- an agent's ids can be numbered
pub record HasFewIds (scope : Scope) : Type 0 where
  pub rows : length scope.rows ≤ 128
  pub filters : length scope.filters ≤ 32

-- an act writes one instruction, which may stand before so many others, is safe where it must, and names what there is
record Wrote (names : Declared) (may must : Bool) (rest : ℕ) (w v : CodeBuilder) : Type 0 where
  one : Instr
  same : v.code ≡ w.code ++ one ∷ []
  fine : IsActBefore may one rest
  safe : must ≡ true → may_be_safe one ≡ true
  grows : length w.texts ≤ length v.texts
  scope : v.scope ≡ w.scope
  named : HasFewIds w.scope → NamesWithin (allows names w.scope (length v.texts)) one
  numbered : length v.texts ≤ 4096 → given_after (length w.texts) (text_uses (one ∷ [])) ≡ Some (length v.texts)
  texts : AllByRecursion (λ t. is_text t ≡ true) w.texts → AllByRecursion (λ t. is_text t ≡ true) v.texts

simple : (names : Declared) (may must : Bool) (rest : ℕ) (w : CodeBuilder) (i : Instr) → IsQuiet i → IsActBefore may i rest → (must ≡ true → may_be_safe i ≡ true) → (HasFewIds w.scope → NamesWithin (allows names w.scope (length w.texts)) i) → Wrote names may must rest w (with_instr i w)
simple names may must rest w i q f s n = record { one = i; same = refl; fine = f; safe = s; grows = omega arith; scope = refl; named = n; numbered = λ l. none_given (length w.texts) i q; texts = λ a. a }

-- what is no switch
never : (may : Bool) → false ≡ true → may ≡ true
never may e = absurd (true≢false (sym e))

idle_fine : (may : Bool) (rest : ℕ) → IsActBefore may idle rest
idle_fine may rest = record { act = refl; switch = never may; parts = tt; jumps = omega arith }

send_fine : (may : Bool) (rest : ℕ) (a m : Option ℕ) (args : Args) → AreArgs args → IsActBefore may (send_instr a m args) rest
send_fine may rest (Some a) (Some m) args h = record { act = refl; switch = never may; parts = h; jumps = omega arith }
send_fine may rest (Some a) None args h = idle_fine may rest
send_fine may rest None m args h = idle_fine may rest

send_quiet : (a m : Option ℕ) (args : Args) → IsQuiet (send_instr a m args)
send_quiet (Some a) (Some m) args = refl
send_quiet (Some a) None args = refl
send_quiet None m args = refl

send_safe : (a m : Option ℕ) (args : Args) → may_be_safe (send_instr a m args) ≡ true
send_safe (Some a) (Some m) args = refl
send_safe (Some a) None args = refl
send_safe None m args = refl

send_named : (n : Named) (a m : Option ℕ) (args : Args) → OnSome (λ k. k < n.mboxes) a → OnSome (λ k. k < n.messages) m → NamesWithin n (send_instr a m args)
unfolding OnSome
send_named n (Some a) (Some m) args h k = (omega (arith, h, min-le_left a (2 ^ 32 - 1)), omega (arith, k, min-le_left m (2 ^ 32 - 1)))
send_named n (Some a) None args h k = tt
send_named n None m args h k = tt

on_some : {X : Type 0} (P : X → Type 0) (o : Option X) → ((x : X) → o ≡ Some x → P x) → OnSome P o
unfolding OnSome
on_some P None f = tt
on_some P (Some x) f = f x refl

number_below : (names : List (List ℕ)) (name : List ℕ) → OnSome (λ k. k < length names) (number_in names name)
number_below names name = on_some (λ k. k < length names) (number_in names name) (λ i e. (position-Some (bytes_eq name) names i [] e).0)

mbox_below : (names : Declared) (name : List ℕ) → OnSome (λ k. k < length names.agents + length names.mboxes) (number_in (names_in space.Mboxes names) name)
mbox_below names name = subst (λ n. OnSome (λ k. k < n) (number_in (names.agents ++ names.mboxes) name)) (length-append names.agents names.mboxes) (number_below (names.agents ++ names.mboxes) name)

-- ---- the acts on rows and filters

or_fine : {X : Type 0} (P : Instr → Type 0) (f : X → Instr) (o : Option X) → P idle → ((x : X) → o ≡ Some x → P (f x)) → P (or_idle f o)
or_fine P f None h k = h
or_fine P f (Some x) h k = k x refl

given_id : (name : List ℕ) (o : Option (List ℕ)) → is_id name o ≡ true → is_some o ≡ true
given_id name None e = absurd (true≢false (sym e))
given_id name (Some id) e = refl

id_there : (ids : List (Option (List ℕ))) (name : List ℕ) (k : ℕ) → length ids ≤ 128 → number_with ids name ≡ Some k → HasId ids (narrow k)
id_there ids name k few e =
    let found = position-Some (is_id name) ids k None e in
    let its : narrow k ≡ k = omega (arith, found.0, few) in
    subst (HasId ids) (sym its) (given_id name (get_or ids k None) found.1)

row_there : (ids : List (Option (List ℕ))) (name : List ℕ) (o : Option ℕ) (row : RowId) → length ids ≤ 128 → number_with ids name ≡ o → option_map row_id o ≡ Some row → HasId ids row.0
row_there ids name None row few e f = absurd cc
row_there ids name (Some k) row few e f = let its : row_id k ≡ row = cc in subst (λ (r : RowId). HasId ids r.0) its (id_there ids name k few e)

filter_there : (ids : List (Option (List ℕ))) (name : List ℕ) (o : Option ℕ) (filter : FilterId) → length ids ≤ 128 → number_with ids name ≡ o → option_map filter_number o ≡ Some filter → HasId ids filter.0
filter_there ids name None filter few e f = absurd cc
filter_there ids name (Some k) filter few e f = let its : filter_number k ≡ filter = cc in subst (λ (r : FilterId). HasId ids r.0) its (id_there ids name k few e)

-- an act on a row of the agent, and on a filter
row_wrote : (names : Declared) (may must : Bool) (rest : ℕ) (w : CodeBuilder) (ds : Items) (f : RowId → Instr) → (must ≡ true → false ≡ true) → ((row : RowId) → IsQuiet (f row)) → ((row : RowId) → IsActBefore may (f row) rest) → ((n : Named) (row : RowId) → HasId n.rows row.0 → NamesWithin n (f row)) → Wrote names may must rest w (with_instr (or_idle f (row_at w.scope ds)) w)
row_wrote names may must rest w ds f safe quiet fine names_it =
    simple names may must rest w _ (or_fine IsQuiet f (row_at w.scope ds) refl (λ row e. quiet row)) (or_fine (λ i. IsActBefore may i rest) f (row_at w.scope ds) (idle_fine may rest) (λ row e. fine row))
    (λ e. absurd (true≢false (sym (safe e))))
    (λ few. or_fine (NamesWithin (allows names w.scope (length w.texts))) f (row_at w.scope ds) tt (λ row e. names_it (allows names w.scope (length w.texts)) row (row_there w.scope.rows (string_at 0 ds) (number_with w.scope.rows (string_at 0 ds)) row few.rows refl e)))

filter_wrote : (names : Declared) (may must : Bool) (rest : ℕ) (w : CodeBuilder) (ds : Items) (f : FilterId → Instr) → (must ≡ true → false ≡ true) → ((filter : FilterId) → IsQuiet (f filter)) → ((filter : FilterId) → IsActBefore may (f filter) rest) → ((n : Named) (filter : FilterId) → HasId n.filters filter.0 → NamesWithin n (f filter)) → Wrote names may must rest w (with_instr (or_idle f (filter_at w.scope ds)) w)
filter_wrote names may must rest w ds f safe quiet fine names_it =
    simple names may must rest w _ (or_fine IsQuiet f (filter_at w.scope ds) refl (λ filter e. quiet filter)) (or_fine (λ i. IsActBefore may i rest) f (filter_at w.scope ds) (idle_fine may rest) (λ filter e. fine filter))
    (λ e. absurd (true≢false (sym (safe e))))
    (λ few. or_fine (NamesWithin (allows names w.scope (length w.texts))) f (filter_at w.scope ds) tt (λ filter e. names_it (allows names w.scope (length w.texts)) filter (filter_there w.scope.filters (string_at 0 ds) (number_with w.scope.filters (string_at 0 ds)) filter (omega (arith, few.filters)) refl e)))

-- ---- the acts on cooperations

coop_below : (names : List (List ℕ)) (name : List ℕ) (k : ℕ) → number_in names name ≡ Some k → narrow k < length names
coop_below names name k e = omega (arith, (position-Some (bytes_eq name) names k [] e).0, min-le_left k (2 ^ 32 - 1))

coop_there : (names : List (List ℕ)) (name : List ℕ) (o : Option ℕ) (coop : CoopId) → number_in names name ≡ o → option_map coop_id o ≡ Some coop → coop.0 < length names
coop_there names name None coop e f = absurd cc
coop_there names name (Some k) coop e f = let its : coop_id k ≡ coop = cc in subst (λ (c : CoopId). c.0 < length names) its (coop_below names name k e)

coop_wrote : (names : Declared) (may must : Bool) (rest : ℕ) (w : CodeBuilder) (ds : Items) (f : CoopId → Instr) → ((coop : CoopId) → IsQuiet (f coop)) → ((coop : CoopId) → IsActBefore may (f coop) rest) → ((coop : CoopId) → may_be_safe (f coop) ≡ true) → ((n : Named) (coop : CoopId) → coop.0 < n.coops → NamesWithin n (f coop)) → Wrote names may must rest w (with_instr (or_idle f (coop_at names ds)) w)
coop_wrote names may must rest w ds f quiet fine safe names_it =
    simple names may must rest w _ (or_fine IsQuiet f (coop_at names ds) refl (λ coop e. quiet coop)) (or_fine (λ i. IsActBefore may i rest) f (coop_at names ds) (idle_fine may rest) (λ coop e. fine coop))
    (λ m. or_fine (λ i. may_be_safe i ≡ true) f (coop_at names ds) refl (λ coop e. safe coop))
    (λ few. or_fine (NamesWithin (allows names w.scope (length w.texts))) f (coop_at names ds) tt (λ coop e. names_it (allows names w.scope (length w.texts)) coop (coop_there names.coops (string_at 0 ds) (number_in names.coops (string_at 0 ds)) coop refl e)))

-- ---- a switch

-- a state's number is at most the number of declared states
pub state_below : (scope : Scope) (name : List ℕ) (k : ℕ) → state_number scope name ≡ Some k → narrow k ≤ length scope.states
state_below scope name k e = let found = position-Some (bytes_eq name) (all_states scope) k [] e in omega (arith, found.0, min-le_left k (2 ^ 32 - 1))

state_there : (scope : Scope) (name : List ℕ) (o : Option ℕ) (s : StateId) → state_number scope name ≡ o → option_map state_id o ≡ Some s → s.0 ≤ length scope.states
state_there scope name None s e f = absurd cc
state_there scope name (Some k) s e f = let its : state_id k ≡ s = cc in subst (λ (r : StateId). r.0 ≤ length scope.states) its (state_below scope name k e)

switch_wrote : (names : Declared) (may must : Bool) (rest : ℕ) (w : CodeBuilder) (ds : Items) → may ≡ true → (must ≡ true → false ≡ true) → Wrote names may must rest w (with_instr (or_idle instr.Switch (state_at w.scope ds)) w)
switch_wrote names may must rest w ds h safe =
    simple names may must rest w _ (or_fine IsQuiet instr.Switch (state_at w.scope ds) refl (λ s e. refl)) (or_fine (λ i. IsActBefore may i rest) instr.Switch (state_at w.scope ds) (idle_fine may rest) (λ s e. record { act = refl; switch = λ q. h; parts = tt; jumps = omega arith }))
    (λ e. absurd (true≢false (sym (safe e))))
    (λ few. or_fine (NamesWithin (allows names w.scope (length w.texts))) instr.Switch (state_at w.scope ds) tt (λ s e. state_there w.scope (string_at 0 ds) (state_number w.scope (string_at 0 ds)) s refl e))

-- ---- a text

-- a new text has the next number
next_text : (n m : ℕ) → m ≡ n + 1 → m ≤ 4096 → given_after n (narrow n ∷ []) ≡ Some m
next_text n m e few =
    let its : narrow n ≡ n = omega (arith, e, few) in
    ap (λ k. given_after n (k ∷ [])) its ∙ (given-next n ∙ ap Some (sym e))

text_wrote : (names : Declared) (may must : Bool) (rest : ℕ) (w : CodeBuilder) (t : List ℕ) (args : Args) (o : Option ℕ) → OnSome (λ k. k < length w.texts) o → is_text t ≡ true → AreArgs args
    → Wrote names may must rest w (with_instr (instr.Log (record { 0 = number_or_next o w.texts }) args) (record w { texts = texts_with o t w.texts }))
unfolding OnSome
text_wrote names may must rest w t args (Some n) h is are = record {
  one = instr.Log (record { 0 = narrow n }) args;
  same = refl;
  fine = record { act = refl; switch = never may; parts = are; jumps = omega arith };
  safe = λ e. refl;
  grows = omega arith;
  scope = refl;
  named = λ few. omega (arith, h, min-le_left n (2 ^ 32 - 1));
  numbered = λ few. given-old (length w.texts) (narrow n) (omega (arith, h, min-le_left n (2 ^ 32 - 1)));
  texts = λ a. a;
}
text_wrote names may must rest w t args None h is are = record {
  one = instr.Log (record { 0 = narrow (length w.texts) }) args;
  same = refl;
  fine = record { act = refl; switch = never may; parts = are; jumps = omega arith };
  safe = λ e. refl;
  grows = omega (arith, length-append w.texts (t ∷ []));
  scope = refl;
  named = λ few. omega (arith, length-append w.texts (t ∷ []), min-le_left (length w.texts) (2 ^ 32 - 1));
  numbered = λ few. next_text (length w.texts) (length (w.texts ++ t ∷ [])) (length-append w.texts (t ∷ [])) few;
  texts = λ a. each-append (λ t. is_text t ≡ true) w.texts (t ∷ []) a (is, tt);
}

checked_text : (b : Bool) (s : List ℕ) → is_text s ≡ b → is_text (text_or_empty (if b then Some s else None)) ≡ true
checked_text true s e = e
checked_text false s e = refl

text_at_fine : (i : ℕ) (ds : Items) → is_text (text_at i ds) ≡ true
text_at_fine i ds = checked_text (is_text (string_at i ds)) (string_at i ds) refl

-- a switch stands only where it may
MaySwitch : Bool → Word → Type 0
MaySwitch may word.Switch = may ≡ true
MaySwitch may other = Unit {0}

-- a switch stands only where it may, and what must be safe is
record Fits (may must : Bool) (wd : Word) (ds : Items) : Type 0 where
  switch : MaySwitch may wd
  safe : must ≡ true → is_safe_act wd ds ≡ true

wrote_word : (names : Declared) (may must : Bool) (rest : ℕ) (w : CodeBuilder) (wd : Word) (ds : Items) → Fits may must wd ds → Wrote names may must rest w (word_written names rest w wd ds)
unfolding MaySwitch
wrote_word names may must rest w word.Set ds h = simple names may must rest w _ refl (record { act = refl; switch = never may; parts = (dest_fine 0 ds, operand_fine 1 ds); jumps = omega arith }) h.safe (λ few. tt)
wrote_word names may must rest w word.Add ds h = simple names may must rest w _ refl (record { act = refl; switch = never may; parts = (dest_fine 0 ds, operand_fine 1 ds, operand_fine 2 ds); jumps = omega arith }) h.safe (λ few. tt)
wrote_word names may must rest w word.Sub ds h = simple names may must rest w _ refl (record { act = refl; switch = never may; parts = (dest_fine 0 ds, operand_fine 1 ds, operand_fine 2 ds); jumps = omega arith }) h.safe (λ few. tt)
wrote_word names may must rest w word.Mul ds h = simple names may must rest w _ refl (record { act = refl; switch = never may; parts = (dest_fine 0 ds, operand_fine 1 ds, operand_fine 2 ds); jumps = omega arith }) h.safe (λ few. tt)
wrote_word names may must rest w word.If ds h = simple names may must rest w _ refl (record { act = refl; switch = never may; parts = (operand_fine 0 ds, operand_fine 2 ds); jumps = count_fine rest 3 ds }) (λ e. refl) (λ few. tt)
wrote_word names may must rest w word.Skip ds h = simple names may must rest w _ refl (record { act = refl; switch = never may; parts = tt; jumps = count_fine rest 0 ds }) (λ e. refl) (λ few. tt)
wrote_word names may must rest w word.Throw ds h = simple names may must rest w _ refl (record { act = refl; switch = never may; parts = operand_fine 0 ds; jumps = omega arith }) (λ e. refl) (λ few. tt)
wrote_word names may must rest w word.Log ds h = text_wrote names may must rest w (text_at 0 ds) (args_from 1 ds) (number_in w.texts (text_at 0 ds)) (number_below w.texts (text_at 0 ds)) (text_at_fine 0 ds) (args_fine 1 ds)
wrote_word names may must rest w word.Send ds h =
    simple names may must rest w _ (send_quiet (number_in (names_in space.Mboxes names) (string_at 0 ds)) (number_in names.messages (string_at 1 ds)) (args_from 2 ds)) (send_fine may rest _ _ (args_from 2 ds) (args_fine 2 ds)) (λ e. send_safe (number_in (names_in space.Mboxes names) (string_at 0 ds)) (number_in names.messages (string_at 1 ds)) (args_from 2 ds))
    (λ few. send_named (allows names w.scope (length w.texts)) (number_in (names_in space.Mboxes names) (string_at 0 ds)) (number_in names.messages (string_at 1 ds)) (args_from 2 ds) (mbox_below names (string_at 0 ds)) (number_below names.messages (string_at 1 ds)))
wrote_word names may must rest w word.Switch ds h = switch_wrote names may must rest w ds h.switch h.safe
wrote_word names may must rest w word.Subscribe ds h = row_wrote names may must rest w ds instr.Subscribe h.safe (λ row. refl) (λ row. record { act = refl; switch = never may; parts = tt; jumps = omega arith }) (λ n row h. h)
wrote_word names may must rest w word.Unsubscribe ds h = row_wrote names may must rest w ds instr.Unsubscribe h.safe (λ row. refl) (λ row. record { act = refl; switch = never may; parts = tt; jumps = omega arith }) (λ n row h. h)
wrote_word names may must rest w word.SetFilter ds h = filter_wrote names may must rest w ds instr.SetFilter h.safe (λ filter. refl) (λ filter. record { act = refl; switch = never may; parts = tt; jumps = omega arith }) (λ n filter h. h)
wrote_word names may must rest w word.DropFilter ds h = filter_wrote names may must rest w ds instr.DropFilter h.safe (λ filter. refl) (λ filter. record { act = refl; switch = never may; parts = tt; jumps = omega arith }) (λ n filter h. h)
wrote_word names may must rest w word.Register ds h = coop_wrote names may must rest w ds instr.Register (λ coop. refl) (λ coop. record { act = refl; switch = never may; parts = tt; jumps = omega arith }) (λ coop. refl) (λ n coop h. h)
wrote_word names may must rest w word.Deregister ds h = coop_wrote names may must rest w ds instr.Deregister (λ coop. refl) (λ coop. record { act = refl; switch = never may; parts = tt; jumps = omega arith }) (λ coop. refl) (λ n coop h. h)
wrote_word names may must rest w word.Stop ds h = simple names may must rest w _ refl (record { act = refl; switch = never may; parts = tt; jumps = omega arith }) (λ e. refl) (λ few. tt)
wrote_word names may must rest w other ds h = simple names may must rest w _ refl (idle_fine may rest) (λ e. refl) (λ few. tt)

-- where switches are allowed
abbrev pub switches : Allowed → Bool
switches AnyAct = true
switches NoSwitch = false
switches Safe = true

-- where acts must be safe
abbrev pub restrains : Allowed → Bool
restrains AnyAct = false
restrains NoSwitch = false
restrains Safe = true

may_stand : (allowed : Allowed) (wd : Word) (ds : Items) → is_allowed allowed wd ds ≡ true → MaySwitch (switches allowed) wd
unfolding MaySwitch
may_stand AnyAct word.Switch ds e = refl
may_stand NoSwitch word.Switch ds e = absurd (true≢false (sym e))
may_stand Safe word.Switch ds e = refl
may_stand allowed other ds e = tt

stands_safe : (allowed : Allowed) (wd : Word) (ds : Items) → is_allowed allowed wd ds ≡ true → restrains allowed ≡ true → is_safe_act wd ds ≡ true
stands_safe AnyAct wd ds e m = absurd (true≢false (sym m))
stands_safe NoSwitch wd ds e m = absurd (true≢false (sym m))
stands_safe Safe wd ds e m = e

wrote_if : (names : Declared) (allowed : Allowed) (rest : ℕ) (w : CodeBuilder) (p : Word × Items) (b : Bool) → is_allowed allowed p.0 p.1 ≡ b → Wrote names (switches allowed) (restrains allowed) rest w (parts_written names rest w (if b then Some p else None))
wrote_if names allowed rest w p true e = wrote_word names (switches allowed) (restrains allowed) rest w p.0 p.1 (record { switch = may_stand allowed p.0 p.1 e; safe = stands_safe allowed p.0 p.1 e })
wrote_if names allowed rest w p false e = simple names (switches allowed) (restrains allowed) rest w _ refl (idle_fine (switches allowed) rest) (λ m. refl) (λ few. tt)

wrote_parts : (names : Declared) (allowed : Allowed) (rest : ℕ) (w : CodeBuilder) (o : Option (Word × Items)) → Wrote names (switches allowed) (restrains allowed) rest w (parts_written names rest w (if_allowed allowed o))
wrote_parts names allowed rest w None = simple names (switches allowed) (restrains allowed) rest w _ refl (idle_fine (switches allowed) rest) (λ m. refl) (λ few. tt)
wrote_parts names allowed rest w (Some p) = wrote_if names allowed rest w p (is_allowed allowed p.0 p.1) refl

wrote_act : (names : Declared) (allowed : Allowed) (rest : ℕ) (w : CodeBuilder) (d : Data) → Wrote names (switches allowed) (restrains allowed) rest w (act_written names allowed rest w d)
wrote_act names allowed rest w d = wrote_parts names allowed rest w (act_parts d)

-- ---- a list of acts

-- more mboxes and texts may be named
pub record Grows (n m : Named) : Type 0 where
  pub mboxes : n.mboxes ≤ m.mboxes
  pub messages : m.messages ≡ n.messages
  pub texts : n.texts ≤ m.texts
  pub coops : m.coops ≡ n.coops
  pub states : m.states ≡ n.states
  pub rows : m.rows ≡ n.rows
  pub filters : m.filters ≡ n.filters

target_grows : (n m : ℕ) (t : Target) → n ≤ m → IsTarget n t → IsTarget m t
target_grows n m (Mbox mbox) l h = omega (arith, l, h)
target_grows n m (Chain chain) l h = h

pub names_grow : (n m : Named) (i : Instr) → Grows n m → NamesWithin n i → NamesWithin m i
names_grow n m (instr.Log text args) g h = omega (arith, g.texts, h)
names_grow n m (instr.Send target msg args) g h = (target_grows n.mboxes m.mboxes target g.mboxes h.0, omega (arith, g.messages, h.1))
names_grow n m (instr.Switch to) g h = omega (arith, g.states, h)
names_grow n m (instr.Subscribe row) g h = subst (λ ids. HasId ids row.0) (sym g.rows) h
names_grow n m (instr.Unsubscribe row) g h = subst (λ ids. HasId ids row.0) (sym g.rows) h
names_grow n m (instr.SetFilter filter) g h = subst (λ ids. HasId ids filter.0) (sym g.filters) h
names_grow n m (instr.DropFilter filter) g h = subst (λ ids. HasId ids filter.0) (sym g.filters) h
names_grow n m (instr.Register coop) g h = omega (arith, g.coops, h)
names_grow n m (instr.Deregister coop) g h = omega (arith, g.coops, h)
names_grow n m other g h = h

-- with more texts, and the ids of the same agent
texts_grow : (names : Declared) (scope other : Scope) (t u : ℕ) → scope ≡ other → t ≤ u → Grows (allows names scope t) (allows names other u)
texts_grow names scope other t u e l = record {
  mboxes = omega arith;
  messages = refl;
  texts = l;
  coops = refl;
  states = ap (λ (x : Scope). length x.states) (sym e);
  rows = ap (λ (x : Scope). x.rows) (sym e);
  filters = ap (λ (x : Scope). x.filters) (sym e);
}

pub record WroteActs (names : Declared) (may must : Bool) (w v : CodeBuilder) (n : ℕ) : Type 0 where
  pub acts : List Instr
  pub same : v.code ≡ w.code ++ acts
  pub long : length acts ≡ n
  pub fine : AreActsBefore may 0 acts
  pub safe : must ≡ true → AllByRecursion (λ i. may_be_safe i ≡ true) acts
  pub grows : length w.texts ≤ length v.texts
  pub scope : v.scope ≡ w.scope
  pub named : HasFewIds w.scope → AllByRecursion (NamesWithin (allows names w.scope (length v.texts))) acts
  pub numbered : length v.texts ≤ 4096 → given_after (length w.texts) (text_uses acts) ≡ Some (length v.texts)
  pub texts : AllByRecursion (λ t. is_text t ≡ true) w.texts → AllByRecursion (λ t. is_text t ≡ true) v.texts

same_few : (s t : Scope) → t ≡ s → HasFewIds s → HasFewIds t
same_few s t e h = subst HasFewIds (sym e) h

one_more : (names : Declared) (may must : Bool) (w u v : CodeBuilder) (rest n : ℕ) → rest ≡ n → Wrote names may must rest w u → WroteActs names may must u v n → WroteActs names may must w v (suc n)
one_more names may must w u v rest n e one more = record {
  acts = one.one ∷ more.acts;
  same = more.same ∙ (ap (λ c. c ++ more.acts) one.same ∙ append_assoc w.code (one.one ∷ []) more.acts);
  long = omega (arith, more.long);
  fine = (let ahead : rest ≡ length more.acts + 0 = omega (arith, e, more.long) in subst (IsActBefore may one.one) ahead one.fine, more.fine);
  safe = λ m. (one.safe m, more.safe m);
  grows = omega (arith, one.grows, more.grows);
  scope = more.scope ∙ one.scope;
  named = λ few. (
    names_grow (allows names w.scope (length u.texts)) (allows names w.scope (length v.texts)) one.one (texts_grow names w.scope w.scope (length u.texts) (length v.texts) refl more.grows) (one.named few),
    subst (λ (x : Scope). AllByRecursion (NamesWithin (allows names x (length v.texts))) more.acts) one.scope (more.named (same_few w.scope u.scope one.scope few)),
  );
  numbered = λ few. numbers_join (length w.texts) (length u.texts) (length v.texts) (one.one ∷ []) more.acts (one.numbered (omega (arith, few, more.grows))) (more.numbered few);
  texts = λ a. more.texts (one.texts a);
}

pub wrote_acts : (names : Declared) (allowed : Allowed) (w : CodeBuilder) (ds : Items) → WroteActs names (switches allowed) (restrains allowed) w (acts_written names allowed w ds) (items_len ds)
unfolding acts_written
wrote_acts names allowed w no_items = record { acts = []; same = sym (append-nil w.code); long = refl; fine = tt; safe = λ m. tt; grows = omega arith; scope = refl; named = λ few. tt; numbered = λ few. refl; texts = λ a. a }
wrote_acts names allowed w (item d ds) = one_more names (switches allowed) (restrains allowed) w _ _ _ _ refl (wrote_act names allowed (items_len ds) w d) (wrote_acts names allowed (act_written names allowed (items_len ds) w d) ds)

-- ---- bodies

record WroteParts (names : Declared) (w v : CodeBuilder) (bodies : List Body) : Type 0 where
  parts : List WholeBody
  same : v.code ≡ w.code ++ flatten parts
  made : map body_of parts ≡ bodies
  each : AllByRecursion IsWholeBody parts
  grows : length w.texts ≤ length v.texts
  scope : v.scope ≡ w.scope
  named : HasFewIds w.scope → AllByRecursion (NamesWithin (allows names w.scope (length v.texts))) (flatten parts)
  numbered : length v.texts ≤ 4096 → given_after (length w.texts) (text_uses (flatten parts)) ≡ Some (length v.texts)
  texts : AllByRecursion (λ t. is_text t ≡ true) w.texts → AllByRecursion (λ t. is_text t ≡ true) v.texts

ended : (names : Declared) (may must : Bool) (b : Body) (w u : CodeBuilder) (n : ℕ) → may ≡ may_switch b → WroteActs names may must w u n → WroteParts names w (with_instr (instr.End b) u) (b ∷ [])
ended names may must b w u n e wrote = record {
  parts = record { body = b; acts = map plain wrote.acts } ∷ [];
  same = ap (λ c. c ++ instr.End b ∷ []) wrote.same ∙ (append_assoc w.code wrote.acts (instr.End b ∷ []) ∙ ap (λ c. w.code ++ (c ++ instr.End b ∷ [])) (sym (plain_code wrote.acts)));
  made = refl;
  each = (plain_acts b wrote.acts (subst (λ s. AreActsBefore s 0 wrote.acts) e wrote.fine), tt);
  grows = wrote.grows;
  scope = wrote.scope;
  named = λ few. subst (λ c. AllByRecursion (NamesWithin (allows names w.scope (length u.texts))) (c ++ instr.End b ∷ [])) (sym (plain_code wrote.acts))
      (each-append (NamesWithin (allows names w.scope (length u.texts))) wrote.acts (instr.End b ∷ []) (wrote.named few) (tt, tt));
  numbered = λ few. subst (λ c. given_after (length w.texts) (text_uses (c ++ instr.End b ∷ [])) ≡ Some (length u.texts)) (sym (plain_code wrote.acts))
      (numbers_join (length w.texts) (length u.texts) (length u.texts) wrote.acts (instr.End b ∷ []) (wrote.numbered few) refl);
  texts = wrote.texts;
}

-- which bodies hold these acts
abbrev pub Holds : Allowed → Body → Type 0
Holds allowed b = switches allowed ≡ may_switch b

wrote_body : (names : Declared) (allowed : Allowed) (b : Body) (w : CodeBuilder) (found : Option Data) → Holds allowed b → WroteParts names w (body_written names allowed b w found) (b ∷ [])
wrote_body names allowed b w found h = ended names (switches allowed) (restrains allowed) b w (acts_written names allowed w (list_of found)) _ h (wrote_acts names allowed w (list_of found))

flatten-append : (ps qs : List WholeBody) → flatten (ps ++ qs) ≡ flatten ps ++ flatten qs
flatten-append [] qs = refl
flatten-append (p ∷ ps) qs = ap (λ c. acts_code p.acts ++ instr.End p.body ∷ c) (flatten-append ps qs) ∙ sym (append_assoc (acts_code p.acts) (instr.End p.body ∷ flatten ps) (flatten qs))

bodies-append : (ps qs : List WholeBody) → map body_of (ps ++ qs) ≡ map body_of ps ++ map body_of qs
bodies-append [] qs = refl
bodies-append (p ∷ ps) qs = ap (λ (l : List Body). p.body ∷ l) (bodies-append ps qs)

joined : (names : Declared) (w u v : CodeBuilder) (bs cs : List Body) → WroteParts names w u bs → WroteParts names u v cs → WroteParts names w v (bs ++ cs)
joined names w u v bs cs a b = record {
  parts = a.parts ++ b.parts;
  same = b.same ∙ (ap (λ c. c ++ flatten b.parts) a.same ∙ (append_assoc w.code (flatten a.parts) (flatten b.parts) ∙ ap (λ c. w.code ++ c) (sym (flatten-append a.parts b.parts))));
  made = bodies-append a.parts b.parts ∙ (ap (λ l. l ++ map body_of b.parts) a.made ∙ ap (λ l. bs ++ l) b.made);
  each = each-append IsWholeBody a.parts b.parts a.each b.each;
  grows = omega (arith, a.grows, b.grows);
  scope = b.scope ∙ a.scope;
  named = λ few. subst (AllByRecursion (NamesWithin (allows names w.scope (length v.texts)))) (sym (flatten-append a.parts b.parts))
      (each-append (NamesWithin (allows names w.scope (length v.texts))) (flatten a.parts) (flatten b.parts)
      (each-weaker (NamesWithin (allows names w.scope (length u.texts))) (NamesWithin (allows names w.scope (length v.texts))) (λ i h. names_grow _ _ i (texts_grow names w.scope w.scope (length u.texts) (length v.texts) refl b.grows) h) (flatten a.parts) (a.named few))
      (subst (λ (x : Scope). AllByRecursion (NamesWithin (allows names x (length v.texts))) (flatten b.parts)) a.scope (b.named (same_few w.scope u.scope a.scope few))));
  numbered = λ few. ap (λ c. given_after (length w.texts) (text_uses c)) (flatten-append a.parts b.parts)
      ∙ numbers_join (length w.texts) (length u.texts) (length v.texts) (flatten a.parts) (flatten b.parts) (a.numbered (omega (arith, few, b.grows))) (b.numbered few);
  texts = λ t. b.texts (a.texts t);
}

no_bodies : (names : Declared) (w : CodeBuilder) → WroteParts names w w []
no_bodies names w = record { parts = []; same = sym (append-nil w.code); made = refl; each = tt; grows = omega arith; scope = refl; named = λ few. tt; numbered = λ few. refl; texts = λ a. a }

-- the bodies of so many states from number k on
states_from : ℕ → ℕ → List Body
states_from k zero = []
states_from k (suc n) = body.Enter (state_id k) ∷ body.Exit (state_id k) ∷ states_from (suc k) n

wrote_state : (names : Declared) (k : ℕ) (w : CodeBuilder) (d : Data) → WroteParts names w (state_written names k w d) (body.Enter (state_id k) ∷ body.Exit (state_id k) ∷ [])
wrote_state names k w d =
    joined names w _ _ (body.Enter (state_id k) ∷ []) (body.Exit (state_id k) ∷ [])
    (wrote_body names NoSwitch (body.Enter (state_id k)) w (get (codes "enter") d) refl)
    (wrote_body names NoSwitch (body.Exit (state_id k)) (body_written names NoSwitch (body.Enter (state_id k)) w (get (codes "enter") d)) (get (codes "exit") d) refl)

wrote_states : (names : Declared) (k : ℕ) (w : CodeBuilder) (ds : Items) → WroteParts names w (states_written names k w ds) (states_from k (items_len ds))
unfolding states_written states_from
wrote_states names k w no_items = no_bodies names w
wrote_states names k w (item d ds) =
    joined names w _ _ (body.Enter (state_id k) ∷ body.Exit (state_id k) ∷ []) (states_from (suc k) (items_len ds))
    (wrote_state names k w d)
    (wrote_states names (suc k) (state_written names k w d) ds)

-- the bodies of the rows from number k on that have a handler
one_if : Body → Option Data → List Body
one_if b None = []
one_if b (Some d) = b ∷ []

rows_from : ℕ → Items → List Body
rows_from k no_items = []
rows_from k (item d ds) = one_if (row_body k) (get (codes "do") d) ++ rows_from (suc k) ds

handler_holds : (b : Bool) (k : ℕ) → Holds (if b then Safe else AnyAct) (row_body k)
handler_holds true k = refl
handler_holds false k = refl

wrote_handler : (names : Declared) (allowed : Allowed) (b : Body) (w : CodeBuilder) (found : Option Data) → Holds allowed b → WroteParts names w (handler_written names allowed b w found) (one_if b found)
unfolding one_if
wrote_handler names allowed b w None h = no_bodies names w
wrote_handler names allowed b w (Some d) h = wrote_body names allowed b w (Some d) h

wrote_rows : (names : Declared) (k : ℕ) (w : CodeBuilder) (ds : Items) → WroteParts names w (rows_written names k w ds) (rows_from k ds)
unfolding rows_written rows_from
wrote_rows names k w no_items = no_bodies names w
wrote_rows names k w (item d ds) =
    joined names w _ _ (one_if (row_body k) (get (codes "do") d)) (rows_from (suc k) ds)
    (wrote_handler names (handler_acts d) (row_body k) w (get (codes "do") d) (handler_holds (is_safe d) k))
    (wrote_rows names (suc k) (handler_written names (handler_acts d) (row_body k) w (get (codes "do") d)) ds)

wrote_start : (names : Declared) (w : CodeBuilder) (d : Data) → WroteParts names w (start_written names w d) (body.Start ∷ body.Finish ∷ [])
wrote_start names w d =
    joined names w _ _ (body.Start ∷ []) (body.Finish ∷ [])
    (wrote_body names AnyAct body.Start w (get (codes "start") d) refl)
    (wrote_body names AnyAct body.Finish (body_written names AnyAct body.Start w (get (codes "start") d)) (get (codes "finish") d) refl)

bodies_of : Data → List Body
bodies_of d = body.Start ∷ body.Finish ∷ (states_from 1 (items_len (state_items d)) ++ rows_from 0 (row_items d))

wrote_agent : (names : Declared) (w : CodeBuilder) (d : Data) → WroteParts names w (agent_written names w d) (bodies_of d)
unfolding bodies_of
wrote_agent names w d =
    joined names w _ _ (body.Start ∷ body.Finish ∷ []) (states_from 1 (items_len (state_items d)) ++ rows_from 0 (row_items d))
    (wrote_start names w d)
    (joined names _ _ _ (states_from 1 (items_len (state_items d))) (rows_from 0 (row_items d))
    (wrote_states names 1 (start_written names w d) (state_items d))
    (wrote_rows names 0 _ (row_items d)))

-- ---- the code of an agent

narrow_small : (k : ℕ) → k ≤ 2 ^ 32 - 1 → narrow k ≡ k
narrow_small k l = omega arith

plus_one : (k : ℕ) → suc k ≡ k + 1
plus_one k = omega arith

-- the states by number
states_are : (k n : ℕ) → k + n ≤ 2 ^ 32 - 1 → states_from k n ≡ state_bodies n k
unfolding states_from
states_are k zero l = refl
states_are k (suc n) l =
    ap (λ j. body.Enter (record { 0 = j }) ∷ body.Exit (record { 0 = j }) ∷ states_from (suc k) n) (narrow_small k (omega arith))
    ∙ ap (λ (bs : List Body). body.Enter (record { 0 = k }) ∷ body.Exit (record { 0 = k }) ∷ bs) (states_are (suc k) n (omega arith) ∙ ap (state_bodies n) (plus_one k))

-- the numbers of the rows that have a handler
unfoldable pub one_number : Bool → ℕ → List RowId → List RowId
one_number true k rows = row_number k ∷ rows
one_number false k rows = rows

unfoldable pub handled : ℕ → Items → List RowId
handled k no_items = []
handled k (item d ds) = one_number (is_some (get (codes "do") d)) k (handled (suc k) ds)

row_is : (k : ℕ) (o : Option Data) (rows : List RowId) → k ≤ 2 ^ 32 - 1 → one_if (row_body k) o ++ map body.Row rows ≡ map body.Row (one_number (is_some o) k rows)
unfolding one_if one_number
row_is k None rows l = refl
row_is k (Some d) rows l = ap (λ j. body.Row (record { 0 = j }) ∷ map body.Row rows) (narrow_small k l)

rows_are : (k : ℕ) (ds : Items) → k + items_len ds ≤ 2 ^ 32 - 1 → rows_from k ds ≡ map body.Row (handled k ds)
unfolding rows_from handled
rows_are k no_items l = refl
rows_are k (item d ds) l =
    ap (λ bs. one_if (row_body k) (get (codes "do") d) ++ bs) (rows_are (suc k) ds (omega arith))
    ∙ row_is k (get (codes "do") d) (handled (suc k) ds) (omega arith)

-- these numbers rise
rises : (n : ℕ) (rest : List ℕ) → AllByRecursion (λ m. n < m) rest → IsStrictlyIncreasing rest → IsStrictlyIncreasing (n ∷ rest)
rises n [] a h k l = absurd (omega arith)
rises n (m ∷ rest) a h zero l = a.0
rises n (m ∷ rest) a h (suc k) l =
    let next : suc k + 1 ≡ suc (k + 1) = omega arith in
    rw next (h k (omega arith))

above_if : (b : Bool) (n k : ℕ) (rows : List RowId) → n < k → AllByRecursion (λ m. n < m) (map number_of_row rows) → AllByRecursion (λ m. n < m) (map number_of_row (one_number b k rows))
unfolding one_number
above_if true n k rows l a = (l, a)
above_if false n k rows l a = a

handled_above : (n k : ℕ) (ds : Items) → n < k → AllByRecursion (λ m. n < m) (map number_of_row (handled k ds))
unfolding handled
handled_above n k no_items l = tt
handled_above n k (item d ds) l = above_if (is_some (get (codes "do") d)) n k (handled (suc k) ds) l (handled_above n (suc k) ds (omega arith))

rising_if : (b : Bool) (k : ℕ) (rows : List RowId) → AllByRecursion (λ m. k < m) (map number_of_row rows) → IsStrictlyIncreasing (map number_of_row rows) → IsStrictlyIncreasing (map number_of_row (one_number b k rows))
unfolding one_number
rising_if true k rows a h = rises k (map number_of_row rows) a h
rising_if false k rows a h = h

rising : (k : ℕ) (ds : Items) → IsStrictlyIncreasing (map number_of_row (handled k ds))
unfolding handled
rising k no_items = λ j l. absurd (omega arith)
rising k (item d ds) = rising_if (is_some (get (codes "do") d)) k (handled (suc k) ds) (handled_above k (suc k) ds (omega arith)) (rising (suc k) ds)

pub agent_bodies_of : Data → List Body
agent_bodies_of d = agent_bodies (items_len (state_items d)) (handled 0 (row_items d))

in_order : (d : Data) → items_len (state_items d) ≤ 63 → items_len (row_items d) ≤ 128 → bodies_of d ≡ agent_bodies_of d
unfolding bodies_of agent_bodies_of
in_order d l m =
    ap (λ (bs : List Body). body.Start ∷ body.Finish ∷ (bs ++ rows_from 0 (row_items d))) (states_are 1 (items_len (state_items d)) (omega arith))
    ∙ ap (λ (bs : List Body). body.Start ∷ body.Finish ∷ (state_bodies (items_len (state_items d)) 1 ++ bs)) (rows_are 0 (row_items d) (omega arith))

agent_order : (d : Data) (bodies : List Body) → bodies ≡ agent_bodies_of d → AreAgentBodies bodies
unfolding agent_bodies_of
agent_order d bodies e = record { states = items_len (state_items d); rows = handled 0 (row_items d); rising = rising 0 (row_items d); same = e }

pub record IsWritten (names : Declared) (scope : Scope) (d : Data) (instrs : List Instr) (texts : ℕ) : Type 0 where
  pub code : IsCode instrs
  pub bodies : bodies_in instrs ≡ agent_bodies (items_len (state_items d)) (handled 0 (row_items d))
  pub named : HasFewIds scope → AllByRecursion (NamesWithin (allows names scope texts)) instrs

-- neither states nor rows are many
pub record IsShort (d : Data) : Type 0 where
  pub states : items_len (state_items d) ≤ 63
  pub rows : items_len (row_items d) ≤ 128

written_parts : (names : Declared) (w v : CodeBuilder) (d : Data) → IsShort d → WroteParts names w v (bodies_of d) → w.code ≡ [] → length v.code ≤ 1024 → IsWritten names w.scope d v.code (length v.texts)
unfolding agent_bodies_of
written_parts names w v d short p e l =
    let same : v.code ≡ flatten p.parts = p.same ∙ ap (λ (c : List Instr). c ++ flatten p.parts) e in
    let few : length (flatten p.parts) ≤ 1024 = subst (λ (c : List Instr). length c ≤ 1024) same l in
    let made : map body_of p.parts ≡ agent_bodies_of d = p.made ∙ in_order d short.states short.rows in
    let order : AreInOrder (map body_of p.parts) = inl (agent_order d (map body_of p.parts) made) in
    record {
      code = subst IsCode (sym same) (structured p.parts few order p.each);
      bodies = ap bodies_in same ∙ (bodies_in-flatten p.parts p.each ∙ made);
      named = λ few. subst (AllByRecursion (NamesWithin (allows names w.scope (length v.texts)))) (sym same) (p.named few);
    }

pub agent_is_written : (names : Declared) (w : CodeBuilder) (d : Data) → IsShort d → w.code ≡ [] → length (agent_written names w d).code ≤ 1024
    → IsWritten names w.scope d (agent_written names w d).code (length (agent_written names w d).texts)
agent_is_written names w d short e l = written_parts names w (agent_written names w d) d short (wrote_agent names w d) e l

-- the texts of an agent are numbered in the order of its code, after those before
pub agent_numbers : (names : Declared) (w : CodeBuilder) (d : Data) → w.code ≡ [] → length (agent_written names w d).texts ≤ 4096
    → given_after (length w.texts) (text_uses (agent_written names w d).code) ≡ Some (length (agent_written names w d).texts)
agent_numbers names w d e few =
    let p = wrote_agent names w d in
    let same : (agent_written names w d).code ≡ flatten p.parts = p.same ∙ ap (λ (c : List Instr). c ++ flatten p.parts) e in
    ap (λ c. given_after (length w.texts) (text_uses c)) same ∙ p.numbered few

pub agent_grows : (names : Declared) (w : CodeBuilder) (d : Data) → length w.texts ≤ length (agent_written names w d).texts
agent_grows names w d = (wrote_agent names w d).grows

pub agent_scope : (names : Declared) (w : CodeBuilder) (d : Data) → (agent_written names w d).scope ≡ w.scope
agent_scope names w d = (wrote_agent names w d).scope

pub agent_texts : (names : Declared) (w : CodeBuilder) (d : Data) → AllByRecursion (λ t. is_text t ≡ true) w.texts → AllByRecursion (λ t. is_text t ≡ true) (agent_written names w d).texts
agent_texts names w d = (wrote_agent names w d).texts

long_if : (a b : Bool) → (a || b) ≡ false → (a ≡ false) × (b ≡ false)
long_if true b e = absurd (true≢false e)
long_if false b e = (refl, e)

pub is_short : (d : Data) → is_long d ≡ false → IsShort d
is_short d e =
    let p = long_if (nat_lt 63 (items_len (state_items d))) (nat_lt 128 (items_len (row_items d))) e in
    record { states = ltb-false 63 (items_len (state_items d)) p.0; rows = ltb-false 128 (items_len (row_items d)) p.1 }

pub code_of_writer : (names : Declared) (w v : CodeBuilder) (d : Data) (code : List Instr) → is_long d ≡ false → agent_written names w d ≡ v → w.code ≡ [] → code ≡ v.code → length v.code ≤ 1024 → IsCode code
code_of_writer names w v d code short written empty same l =
    subst IsCode (ap (λ (x : CodeBuilder). x.code) written ∙ sym same)
    (agent_is_written names w d (is_short d short) empty (subst (λ (x : CodeBuilder). length x.code ≤ 1024) (sym written) l)).code
