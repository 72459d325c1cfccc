-- The acts of an agent are as a file can say them, and its bodies are short.
use Rattle.std.proofs.Common.{◌≡◌, ℕ, zero, suc, ◌+◌, ◌<◌, ◌≤◌, pos, List, [], ◌∷◌, ◌++◌, length, map, get_or, Bool, true, false, ◌&&◌, nat_lt, if◌then◌else◌, Option, Some, None, option_map, option_and_then, refl, sym, ap, ◌∙◌, subst, arith, codes, bytes_eq, append_assoc, append-nil}
use Rattle.std.proofs.lemmas.Bool.{and_from, lt-ltb, true≢false}
use Rattle.std.proofs.lemmas.List.Quantifiers.{position-Some}
use Rattle.std.proofs.lemmas.Slice.Eq.{bytes_eq-Decides}
use Rattle.std.specs.List.{AllByRecursion}
use Rattle.std.specs.Prelude.{slice_index_or}
use Rattle.serde_json.specs.Data.{Data, Items, no_items, item, null, boolean, number, string, array, object}
use Rattle.serde_json.specs.Events.{items_len}
use Rattle.serde_json.specs.Find.{as_str, get, get_item}
use Rattle.so_code.specs.declared.instr.Args.{Args}
use Rattle.so_code.specs.declared.instr.Body.{Body}
use Rattle.so_code.specs.declared.instr.Body.TheVariants as body
use Rattle.so_code.specs.declared.instr.Instr.{Instr}
use Rattle.so_code.specs.declared.instr.Instr.TheVariants as instr
use Rattle.so_code.specs.declared.instr.Operand.{Operand}
use Rattle.so_code.specs.declared.instr.Operand.TheVariants as operand
use Rattle.so_code.specs.Bodies.{is_end}
use Rattle.so_code.specs.Shape.{AreActsBefore}
use Rattle.so_code.specs.Valid.{is_act}
use Rattle.so_lists.proofs.Filters.{each-append}
use Rattle.so_scene.specs.declared.parts.MessageDef.{MessageDef}
use Rattle.so_scene.specs.Names.{number_in}
use Rattle.so_scene.specs.Parts.{no_message}
use Rattle.so_scene.specs.Words.{is_name}
use Rattle.so_scene.specs.Written.{IsWrittenOperand, is_zero, ArePadded, AreOperands, IsWrittenAmong, are_short}
use Rattle.so_scene_fields.specs.declared.act_table.Allowed.{Allowed}
use Rattle.so_scene_fields.specs.declared.act_table.Allowed.TheVariants.{AnyAct, NoSwitch}
use Rattle.so_scene_fields.specs.declared.act_table.Word.{Word}
use Rattle.so_scene_fields.specs.declared.act_table.Word.TheVariants as word
use Rattle.so_scene_passes.specs.declared.declare.Declared.{Declared}
use Rattle.so_scene_fields.specs.declared.table.Space.TheVariants as space
use Rattle.so_scene_fields.specs.declared.values.Trouble.TheVariants.{OutOfRange}
use Rattle.so_scene_build.specs.declared.code_builder.CodeBuilder.{CodeBuilder}
use Rattle.so_scene_fields.specs.ActTable.{word_named, is_allowed, handler_acts}
use Rattle.so_scene_fields.specs.Acts.{act_parts}
use Rattle.so_scene_build.specs.Build.{body_written, start_written, state_written, states_written, row_body, handler_written, rows_written, agent_written}
use Rattle.so_scene_passes.specs.Known.{has_signal, signal_at, send_trouble, name_trouble}
use Rattle.so_scene_fields.specs.Numbers.{HasNumbers, HaveNumbers}
use Rattle.so_scene_passes.specs.Scope.{state_items, row_items}
use Rattle.so_scene_passes.specs.Twice.{names_in}
use Rattle.so_scene_fields.specs.Values.{◌or◌, read_or, text_or_empty, operand_of}
use Rattle.so_scene_fields.specs.Visits.{narrow, list_of, listed}
use Rattle.so_scene_build.specs.CodeBuilder.{operand_at, args_from, string_at, send_instr, state_at, row_at, filter_at, coop_at, or_idle, idle, with_instr, word_written, parts_written, if_allowed, act_written, acts_written, state_id}
use Rattle.so_scene_build.proofs.Codes.{switches, wrote_acts}
use Rattle.so_scene_fields.proofs.Ends.{all_of}
use Rattle.so_scene_fields.proofs.Numbers.{OnSome, get_numbers, item_numbers, list_numbers, operand_read}
use Rattle.so_scene_passes.proofs.Passed.{IsWordKnown, ArePartsKnown, IsActKnown, AreActs, HasState, HasRow, IsFineAgent}

-- ---- operands

operand_said : (i : ℕ) (ds : Items) → HaveNumbers ds → IsWrittenOperand (operand_at i ds)
operand_said i ds h = operand_read (get_item i ds) (item_numbers i ds h)

no_item : (i : ℕ) (ds : Items) → items_len ds ≤ i → get_item i ds ≡ None
no_item i no_items l = refl
no_item zero (item d ds) l = absurd (omega arith)
no_item (suc i) (item d ds) l = no_item i ds (omega arith)

beyond : (i : ℕ) (ds : Items) → items_len ds ≤ i → is_zero (operand_at i ds) ≡ true
beyond i ds l = ap (λ o. is_zero (read_or (operand.Num (pos 0)) operand_of o)) (no_item i ds l)

pads : (u : ℕ) (a b c d : Operand) → IsWrittenOperand a → IsWrittenOperand b → IsWrittenOperand c → IsWrittenOperand d
    → (u < 1 → is_zero a ≡ true) → (u < 2 → is_zero b ≡ true) → (u < 3 → is_zero c ≡ true) → (u < 4 → is_zero d ≡ true) → ArePadded u (a ∷ b ∷ c ∷ d ∷ [])
pads zero a b c d k l m n e f g h = (e (omega arith), (f (omega arith), (g (omega arith), (h (omega arith), tt))))
pads (suc zero) a b c d k l m n e f g h = (k, (f (omega arith), (g (omega arith), (h (omega arith), tt))))
pads (suc (suc zero)) a b c d k l m n e f g h = (k, (l, (g (omega arith), (h (omega arith), tt))))
pads (suc (suc (suc zero))) a b c d k l m n e f g h = (k, (l, (m, (h (omega arith), tt))))
pads (suc (suc (suc (suc u)))) a b c d k l m n e f g h = (k, (l, (m, (n, tt))))

args_said : (i : ℕ) (ds : Items) → HaveNumbers ds → AreOperands (args_from i ds)
args_said i ds h = record {
  four = refl;
  padded = pads (args_from i ds).used (operand_at i ds) (operand_at (i + 1) ds) (operand_at (i + 2) ds) (operand_at (i + 3) ds)
      (operand_said i ds h) (operand_said (i + 1) ds h) (operand_said (i + 2) ds h) (operand_said (i + 3) ds h)
      (λ l. beyond i ds (omega (arith, l))) (λ l. beyond (i + 1) ds (omega (arith, l))) (λ l. beyond (i + 2) ds (omega (arith, l))) (λ l. beyond (i + 3) ds (omega (arith, l)));
}

-- ---- signals

abbrev pub message_signal : MessageDef → Bool
message_signal m = m.signal

-- the messages that are declared, by number
pub record AreMessages (names : Declared) (messages : List MessageDef) : Type 0 where
  pub few : length names.messages ≤ 256
  pub named : AllByRecursion (λ name. is_name name ≡ true) names.messages
  pub count : length messages ≡ length names.messages
  pub signals : map message_signal messages ≡ names.signals

signal_there : (messages : List MessageDef) (n : ℕ) → slice_index_or (map message_signal messages) n false ≡ (slice_index_or messages n no_message).signal
signal_there [] zero = refl
signal_there [] (suc n) = refl
signal_there (m ∷ messages) zero = refl
signal_there (m ∷ messages) (suc n) = signal_there messages n

no_signal : (b : Bool) → (if b then Some OutOfRange else None) ≡ None → b ≡ false
no_signal true e = absurd cc
no_signal false e = refl

no_empty_name : (names : List (List ℕ)) (k : ℕ) → AllByRecursion (λ name. is_name name ≡ true) names → number_in names [] ≡ Some k → ⊥
no_empty_name names k a e =
    let found = position-Some (bytes_eq []) names k [] e in
    let same : [] ≡ get_or names k [] = (bytes_eq-Decides [] (get_or names k [])).0 found.1 in
    true≢false (sym (subst (λ name. is_name name ≡ true) (sym same) (all_of (λ name. is_name name ≡ true) names a k [] found.0)))

is_message : (names : Declared) (messages : List MessageDef) → AreMessages names messages → (o : Option (List ℕ)) (k : ℕ) → number_in names.messages (text_or_empty o) ≡ Some k → has_signal names o ≡ false → (slice_index_or messages (narrow k) no_message).signal ≡ false
is_message names messages h None k e f = absurd (no_empty_name names.messages k h.named e)
is_message names messages h (Some text) k e f =
    let its : narrow k ≡ k = omega (arith, (position-Some (bytes_eq text) names.messages k [] e).0, h.few) in
    sym (signal_there messages (narrow k))
    ∙ (ap (λ s. slice_index_or s (narrow k) false) h.signals ∙ (ap (λ n. slice_index_or names.signals n false) its ∙ (sym (ap (signal_at names) e) ∙ f)))

last_none : {X : Type 0} (a b : Option X) → (a or b) ≡ None → b ≡ None
last_none None b e = e
last_none (Some x) b e = absurd cc

-- a signal that is sent has no operands
carries : (names : Declared) (messages : List MessageDef) → AreMessages names messages → (ds : Items) → send_trouble names ds ≡ None → (k : ℕ) → number_in names.messages (string_at 1 ds) ≡ Some k → (slice_index_or messages (narrow k) no_message).signal ≡ true → (args_from 2 ds).used ≡ 0
carries names messages h no_items e k f g = refl
carries names messages h (item target no_items) e k f g = refl
carries names messages h (item target (item message no_items)) e k f g = refl
carries names messages h (item target (item message (item d ds))) e k f g =
    let none = last_none (name_trouble names space.Mboxes (as_str target) or name_trouble names space.Messages (as_str message)) _ e in
    absurd (true≢false (sym g ∙ is_message names messages h (as_str message) k f (no_signal (has_signal names (as_str message)) none)))

sent : (messages : List MessageDef) (a m : Option ℕ) (args : Args) → AreOperands args → ((k : ℕ) → m ≡ Some k → (slice_index_or messages (narrow k) no_message).signal ≡ true → args.used ≡ 0) → IsWrittenAmong messages (send_instr a m args)
sent messages (Some a) (Some m) args h k = (h, k m refl)
sent messages (Some a) None args h k = tt
sent messages None m args h k = tt

-- ---- acts

abbrev AreWritten : List MessageDef → List Instr → Type 0
AreWritten messages code = AllByRecursion (IsWrittenAmong messages) code

pushed : (messages : List MessageDef) (w : CodeBuilder) (i : Instr) → AreWritten messages w.code → IsWrittenAmong messages i → AreWritten messages (with_instr i w).code
pushed messages w i a h = each-append (IsWrittenAmong messages) w.code (i ∷ []) a (h, tt)

or_said : {X : Type 0} (messages : List MessageDef) (f : X → Instr) (o : Option X) → ((x : X) → IsWrittenAmong messages (f x)) → IsWrittenAmong messages (or_idle f o)
or_said messages f None h = tt
or_said messages f (Some x) h = h x

word_said : (names : Declared) (messages : List MessageDef) → AreMessages names messages → (rest : ℕ) (w : CodeBuilder) (wd : Word) (ds : Items) → IsWordKnown names wd ds → HaveNumbers ds → AreWritten messages w.code → AreWritten messages (word_written names rest w wd ds).code
word_said names messages m rest w word.Set ds h n a = pushed messages w _ a (operand_said 1 ds n)
word_said names messages m rest w word.Add ds h n a = pushed messages w _ a (operand_said 1 ds n, operand_said 2 ds n)
word_said names messages m rest w word.Sub ds h n a = pushed messages w _ a (operand_said 1 ds n, operand_said 2 ds n)
word_said names messages m rest w word.Mul ds h n a = pushed messages w _ a (operand_said 1 ds n, operand_said 2 ds n)
word_said names messages m rest w word.If ds h n a = pushed messages w _ a (operand_said 0 ds n, operand_said 2 ds n)
word_said names messages m rest w word.Throw ds h n a = pushed messages w _ a (operand_said 0 ds n)
word_said names messages m rest w word.Log ds h n a = each-append (IsWrittenAmong messages) w.code (_ ∷ []) a (args_said 1 ds n, tt)
word_said names messages m rest w word.Send ds h n a =
    pushed messages w _ a (sent messages (number_in (names_in space.Mboxes names) (string_at 0 ds)) (number_in names.messages (string_at 1 ds)) (args_from 2 ds) (args_said 2 ds n) (carries names messages m ds h))
word_said names messages m rest w word.Switch ds h n a = pushed messages w _ a (or_said messages instr.Switch (state_at w.scope ds) (λ x. tt))
word_said names messages m rest w word.Subscribe ds h n a = pushed messages w _ a (or_said messages instr.Subscribe (row_at w.scope ds) (λ x. tt))
word_said names messages m rest w word.Unsubscribe ds h n a = pushed messages w _ a (or_said messages instr.Unsubscribe (row_at w.scope ds) (λ x. tt))
word_said names messages m rest w word.SetFilter ds h n a = pushed messages w _ a (or_said messages instr.SetFilter (filter_at w.scope ds) (λ x. tt))
word_said names messages m rest w word.DropFilter ds h n a = pushed messages w _ a (or_said messages instr.DropFilter (filter_at w.scope ds) (λ x. tt))
word_said names messages m rest w word.Register ds h n a = pushed messages w _ a (or_said messages instr.Register (coop_at names ds) (λ x. tt))
word_said names messages m rest w word.Deregister ds h n a = pushed messages w _ a (or_said messages instr.Deregister (coop_at names ds) (λ x. tt))
word_said names messages m rest w other ds h n a = pushed messages w _ a tt

if_said : (names : Declared) (messages : List MessageDef) → AreMessages names messages → (rest : ℕ) (w : CodeBuilder) (p : Word × Items) (b : Bool) → IsWordKnown names p.0 p.1 → HaveNumbers p.1 → AreWritten messages w.code → AreWritten messages (parts_written names rest w (if b then Some p else None)).code
if_said names messages m rest w p true h n a = word_said names messages m rest w p.0 p.1 h n a
if_said names messages m rest w p false h n a = pushed messages w idle a tt

PartsNumbers : Option (Word × Items) → Type 0
PartsNumbers o = OnSome (λ p. HaveNumbers p.1) o

parts_said : (names : Declared) (messages : List MessageDef) → AreMessages names messages → (allowed : Allowed) (rest : ℕ) (w : CodeBuilder) (o : Option (Word × Items)) → ArePartsKnown names o → PartsNumbers o → AreWritten messages w.code → AreWritten messages (parts_written names rest w (if_allowed allowed o)).code
unfolding PartsNumbers
parts_said names messages m allowed rest w None h n a = pushed messages w idle a tt
parts_said names messages m allowed rest w (Some p) h n a = if_said names messages m rest w p (is_allowed allowed p.0 p.1) h n a

with_numbers : (o : Option Word) (ds : Items) → HaveNumbers ds → PartsNumbers (option_map (λ w. (w, ds)) o)
unfolding PartsNumbers
with_numbers None ds h = tt
with_numbers (Some w) ds h = h

parts_numbers : (d : Data) → HasNumbers d → PartsNumbers (act_parts d)
unfolding PartsNumbers
parts_numbers null h = tt
parts_numbers (boolean b) h = tt
parts_numbers (number n) h = tt
parts_numbers (string s) h = tt
parts_numbers (array no_items) h = tt
parts_numbers (array (item d ds)) h = with_numbers (option_and_then word_named (as_str d)) ds h.1
parts_numbers (object ms) h = tt

acts_said : (names : Declared) (messages : List MessageDef) → AreMessages names messages → (allowed : Allowed) (w : CodeBuilder) (ds : Items) → AllByRecursion (IsActKnown names) (listed ds) → HaveNumbers ds → AreWritten messages w.code → AreWritten messages (acts_written names allowed w ds).code
unfolding acts_written
acts_said names messages m allowed w no_items h n a = a
acts_said names messages m allowed w (item d ds) h n a =
    acts_said names messages m allowed (act_written names allowed (items_len ds) w d) ds h.1 n.1
    (parts_said names messages m allowed (items_len ds) w (act_parts d) h.0 (parts_numbers d n.0) a)

-- ---- short bodies

not_end : (i : Instr) → is_act i ≡ true → is_end i ≡ false
not_end (instr.End b) e = absurd (true≢false (sym e))
not_end other e = refl

one_short : (b zero_more more : Bool) (n : ℕ) → b ≡ false → n < 256 → more ≡ true → (if b then zero_more else nat_lt n 256 && more) ≡ true
one_short true zero_more more n e l h = absurd (true≢false e)
one_short false zero_more more n e l h = and_from (nat_lt n 256) more (lt-ltb n 256 l) h

body_short : (may : Bool) (n : ℕ) (acts : List Instr) (b : Body) (more : List Instr) → AreActsBefore may 0 acts → n + length acts ≤ 256 → are_short 0 more ≡ true → are_short n (acts ++ instr.End b ∷ more) ≡ true
body_short may n [] b more h l s = s
body_short may n (i ∷ acts) b more h l s =
    one_short (is_end i) (are_short 0 (acts ++ instr.End b ∷ more)) (are_short (suc n) (acts ++ instr.End b ∷ more)) n (not_end i h.0.act) (omega arith)
    (body_short may (suc n) acts b more h.1 (omega arith) s)

-- acts as a file says them, in bodies that leave what follows as short as it is
pub record AreSaid (messages : List MessageDef) (code : List Instr) : Type 0 where
  pub written : AllByRecursion (IsWrittenAmong messages) code
  pub short : (more : List Instr) → are_short 0 more ≡ true → are_short 0 (code ++ more) ≡ true

body_said : (names : Declared) (messages : List MessageDef) → AreMessages names messages → (allowed : Allowed) (b : Body) (w : CodeBuilder) (found : Option Data) → AreActs names found → OnSome HasNumbers found → AreSaid messages w.code → AreSaid messages (body_written names allowed b w found).code
body_said names messages m allowed b w found h n a =
    let wrote = wrote_acts names allowed w (list_of found) in
    record {
      written = pushed messages (acts_written names allowed w (list_of found)) (instr.End b) (acts_said names messages m allowed w (list_of found) h.known (list_numbers found n) a.written) tt;
      short = λ more s.
          let ends : are_short 0 (w.code ++ (wrote.acts ++ instr.End b ∷ more)) ≡ true = a.short (wrote.acts ++ instr.End b ∷ more) (body_short (switches allowed) 0 wrote.acts b more wrote.fine (omega (arith, wrote.long, h.few)) s) in
          let same : ((acts_written names allowed w (list_of found)).code ++ instr.End b ∷ []) ++ more ≡ w.code ++ (wrote.acts ++ instr.End b ∷ more) =
          ap (λ c. (c ++ instr.End b ∷ []) ++ more) wrote.same ∙ (append_assoc (w.code ++ wrote.acts) (instr.End b ∷ []) more ∙ append_assoc w.code wrote.acts (instr.End b ∷ more)) in
          ap (are_short 0) same ∙ ends;
    }

state_said : (names : Declared) (messages : List MessageDef) → AreMessages names messages → (k : ℕ) (w : CodeBuilder) (d : Data) → HasState names d → HasNumbers d → AreSaid messages w.code → AreSaid messages (state_written names k w d).code
state_said names messages m k w d h n a =
    body_said names messages m NoSwitch (body.Exit (state_id k)) (body_written names NoSwitch (body.Enter (state_id k)) w (get (codes "enter") d)) (get (codes "exit") d) h.exit (get_numbers (codes "exit") d n)
    (body_said names messages m NoSwitch (body.Enter (state_id k)) w (get (codes "enter") d) h.enter (get_numbers (codes "enter") d n) a)

states_said : (names : Declared) (messages : List MessageDef) → AreMessages names messages → (k : ℕ) (w : CodeBuilder) (ds : Items) → AllByRecursion (HasState names) (listed ds) → HaveNumbers ds → AreSaid messages w.code → AreSaid messages (states_written names k w ds).code
unfolding states_written
states_said names messages m k w no_items h n a = a
states_said names messages m k w (item d ds) h n a = states_said names messages m (suc k) (state_written names k w d) ds h.1 n.1 (state_said names messages m k w d h.0 n.0 a)

handler_said : (names : Declared) (messages : List MessageDef) → AreMessages names messages → (allowed : Allowed) (b : Body) (w : CodeBuilder) (found : Option Data) → AreActs names found → OnSome HasNumbers found → AreSaid messages w.code → AreSaid messages (handler_written names allowed b w found).code
handler_said names messages m allowed b w None h n a = a
handler_said names messages m allowed b w (Some d) h n a = body_said names messages m allowed b w (Some d) h n a

rows_said : (names : Declared) (messages : List MessageDef) → AreMessages names messages → (i : ℕ) (w : CodeBuilder) (ds : Items) → AllByRecursion (HasRow names) (listed ds) → HaveNumbers ds → AreSaid messages w.code → AreSaid messages (rows_written names i w ds).code
unfolding rows_written
rows_said names messages m i w no_items h n a = a
rows_said names messages m i w (item d ds) h n a =
    rows_said names messages m (suc i) (handler_written names (handler_acts d) (row_body i) w (get (codes "do") d)) ds h.1 n.1
    (handler_said names messages m (handler_acts d) (row_body i) w (get (codes "do") d) h.0.acts (get_numbers (codes "do") d n.0) a)

start_said : (names : Declared) (messages : List MessageDef) → AreMessages names messages → (w : CodeBuilder) (d : Data) → IsFineAgent names d → AreSaid messages w.code → AreSaid messages (start_written names w d).code
start_said names messages m w d h a =
    body_said names messages m AnyAct body.Finish (body_written names AnyAct body.Start w (get (codes "start") d)) (get (codes "finish") d) h.finish (get_numbers (codes "finish") d h.numbers)
    (body_said names messages m AnyAct body.Start w (get (codes "start") d) h.start (get_numbers (codes "start") d h.numbers) a)

nothing_said : (messages : List MessageDef) (code : List Instr) → code ≡ [] → AreSaid messages code
nothing_said messages code e = subst (AreSaid messages) (sym e) (record { written = tt; short = λ more s. s })

pub agent_said : (names : Declared) (messages : List MessageDef) → AreMessages names messages → (w : CodeBuilder) (d : Data) → IsFineAgent names d → w.code ≡ [] → AreSaid messages (agent_written names w d).code
agent_said names messages m w d h e =
    rows_said names messages m 0 _ (row_items d) h.rows (list_numbers (get (codes "on") d) (get_numbers (codes "on") d h.numbers))
    (states_said names messages m 1 _ (state_items d) h.states (list_numbers (get (codes "states") d) (get_numbers (codes "states") d h.numbers))
    (start_said names messages m w d h (nothing_said messages w.code e)))

pub said_short : (messages : List MessageDef) (code : List Instr) → AreSaid messages code → are_short 0 code ≡ true
said_short messages code h = ap (are_short 0) (sym (append-nil code)) ∙ h.short [] refl
