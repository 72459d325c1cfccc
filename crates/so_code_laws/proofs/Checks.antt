-- A test that computes whether a literal list of instructions is a code.
use Rattle.std.proofs.Common.{◌≡◌, ℕ, zero, suc, ◌+◌, ◌-◌, ◌≤◌, ⊎_elim, inl, inr, Bool, true, false, ◌&&◌, ◌||◌, List, [], ◌∷◌, length, take, Option, Some, None, arith, length-append}
use Rattle.std.specs.Prelude.{slice_get, nat_lt, nat_le, nat_eq, map}
use Rattle.std.specs.List.{AllByRecursion}
use Rattle.std.specs.List.Sorted.{IsStrictlyIncreasing}
use Rattle.std.proofs.lemmas.Bool.{and_parts, or_cases, ltb-true, leb-true, eqb-true}
use Rattle.so_ids.specs.declared.MsgId.{MsgId}
use Rattle.so_ids.specs.declared.RowId.{RowId}
use Rattle.so_code.specs.declared.instr.Body.{Body}
use Rattle.so_code.specs.declared.instr.Body.TheVariants.{Thread}
use Rattle.so_code.specs.declared.instr.Operand.{Operand}
use Rattle.so_code.specs.declared.instr.Operand.TheVariants.{Num, Var, Msg, Temp, Ans}
use Rattle.so_code.specs.declared.instr.Dest.{Dest}
use Rattle.so_code.specs.declared.instr.Dest.TheVariants.{Var as ToVar, Temp as ToTemp}
use Rattle.so_code.specs.declared.instr.Args.{Args}
use Rattle.so_code.specs.declared.instr.Instr.{Instr}
use Rattle.so_code.specs.declared.instr.Instr.TheVariants as instr
use Rattle.so_code.specs.Receives.{is_receive}
use Rattle.so_code.specs.Valid.{AreArgs, IsOperand, IsDest, HasParts, jump, is_act, is_switch}
use Rattle.so_code.specs.Shape.{Handler, Act, WholeBody, plain, receiving, act_code, acts_code, flatten, cases_of, IsActBefore, AreActsBefore, IsHandler, PassesOver, may_switch, IsAct, AreActs, IsWholeBody, agent_bodies, row_number, body_of, IsCode}

-- ---- the numbers of an instruction

abbrev pub is_operand : Operand → Bool
is_operand (Num n) = true
is_operand (Var k) = nat_lt k 16
is_operand (Msg k) = nat_lt k 4
is_operand (Temp k) = nat_lt k 4
is_operand Ans = true

operand_sound : (a : Operand) → is_operand a ≡ true → IsOperand a
operand_sound (Num n) e = tt
operand_sound (Var k) e = ltb-true k 16 e
operand_sound (Msg k) e = ltb-true k 4 e
operand_sound (Temp k) e = ltb-true k 4 e
operand_sound Ans e = tt

abbrev pub is_dest : Dest → Bool
is_dest (ToVar k) = nat_lt k 16
is_dest (ToTemp k) = nat_lt k 4

dest_sound : (a : Dest) → is_dest a ≡ true → IsDest a
dest_sound (ToVar k) e = ltb-true k 16 e
dest_sound (ToTemp k) e = ltb-true k 4 e

abbrev pub are_operands : List Operand → Bool
are_operands [] = true
are_operands (a ∷ list) = is_operand a && are_operands list

operands_sound : (list : List Operand) (k : ℕ) (a : Operand) → are_operands list ≡ true → slice_get list k ≡ Some a → IsOperand a
operands_sound [] k a e here = let none : None ≡ Some a = here in cc
operands_sound (b ∷ list) zero a e here = let same : b ≡ a = cc in rw (← same) (operand_sound b (and_parts _ _ e).0)
operands_sound (b ∷ list) (suc k) a e here = operands_sound list k a (and_parts _ _ e).1 here

abbrev pub are_args : Args → Bool
are_args args = are_operands args.list && nat_le args.used 4

args_sound : (args : Args) → are_args args ≡ true → AreArgs args
args_sound args e = record {
  each = λ k a here. operands_sound args.list k a (and_parts _ _ e).0 here;
  few = leb-true args.used 4 (and_parts _ _ e).1;
}

abbrev pub has_parts : Instr → Bool
has_parts (instr.Set to a) = is_dest to && is_operand a
has_parts (instr.Add to a b) = is_dest to && (is_operand a && is_operand b)
has_parts (instr.Sub to a b) = is_dest to && (is_operand a && is_operand b)
has_parts (instr.Mul to a b) = is_dest to && (is_operand a && is_operand b)
has_parts (instr.If a cmp b count) = is_operand a && is_operand b
has_parts (instr.Throw a) = is_operand a
has_parts (instr.Log text args) = are_args args
has_parts (instr.Send target msg args) = are_args args
has_parts (instr.Delayed target msg ms args) = are_args args
has_parts (instr.Timer slot target msg ms period args) = nat_lt slot 8 && are_args args
has_parts (instr.Cancel slot) = nat_lt slot 8
has_parts (instr.Receive chains cases handle_n extract_n empty_timeout total_time no_wait) = nat_lt 0 cases && nat_le cases 8
has_parts other = true

parts_sound : (i : Instr) → has_parts i ≡ true → HasParts i
parts_sound (instr.Set to a) e = (dest_sound to (and_parts _ _ e).0, operand_sound a (and_parts _ _ e).1)
parts_sound (instr.Add to a b) e = (dest_sound to (and_parts _ _ e).0, operand_sound a (and_parts _ _ (and_parts _ _ e).1).0, operand_sound b (and_parts _ _ (and_parts _ _ e).1).1)
parts_sound (instr.Sub to a b) e = (dest_sound to (and_parts _ _ e).0, operand_sound a (and_parts _ _ (and_parts _ _ e).1).0, operand_sound b (and_parts _ _ (and_parts _ _ e).1).1)
parts_sound (instr.Mul to a b) e = (dest_sound to (and_parts _ _ e).0, operand_sound a (and_parts _ _ (and_parts _ _ e).1).0, operand_sound b (and_parts _ _ (and_parts _ _ e).1).1)
parts_sound (instr.If a cmp b count) e = (operand_sound a (and_parts _ _ e).0, operand_sound b (and_parts _ _ e).1)
parts_sound (instr.Throw a) e = operand_sound a e
parts_sound (instr.Log text args) e = args_sound args e
parts_sound (instr.Send target msg args) e = args_sound args e
parts_sound (instr.Delayed target msg ms args) e = args_sound args e
parts_sound (instr.Timer slot target msg ms period args) e = (ltb-true slot 8 (and_parts _ _ e).0, args_sound args (and_parts _ _ e).1)
parts_sound (instr.Cancel slot) e = ltb-true slot 8 e
parts_sound (instr.Receive chains cases handle_n extract_n empty_timeout total_time no_wait) e = (ltb-true 0 cases (and_parts _ _ e).0, leb-true cases 8 (and_parts _ _ e).1)
parts_sound other e = tt

-- ---- the parts of a literal list, read from its end

pub record Reading : Type 0 where
  pub parts : List WholeBody
  pub handlers : List Handler
  pub inside : Option (List Instr)

abbrev with_act : Act → List WholeBody → List WholeBody
with_act a [] = []
with_act a (p ∷ rest) = record p { acts = a ∷ p.acts } ∷ rest

abbrev read_plain : Instr → Option (List Instr) → Reading → Reading
read_plain i None r = record r { parts = with_act (plain i) r.parts }
read_plain i (Some acts) r = record r { inside = Some (i ∷ acts) }

abbrev read_case : ℕ → MsgId → Option (List Instr) → Reading → Reading
read_case case msg None r = r
read_case case msg (Some acts) r = record r { handlers = record { case = case; msg = msg; acts = acts } ∷ r.handlers; inside = None }

abbrev read_one : Instr → Reading → Reading
read_one (instr.End body) r = record r { parts = record { body = body; acts = [] } ∷ r.parts }
read_one instr.Back r = record r { inside = Some [] }
read_one (instr.Case case msg) r = read_case case msg r.inside r
read_one (instr.Receive chains cases handle_n extract_n empty_timeout total_time no_wait) r =
    record r { parts = with_act (receiving (instr.Receive chains cases handle_n extract_n empty_timeout total_time no_wait) r.handlers) r.parts; handlers = [] }
read_one other r = read_plain other r.inside r

abbrev read_all : List Instr → Reading
read_all [] = record { parts = []; handlers = []; inside = None }
read_all (i ∷ code) = read_one i (read_all code)

abbrev pub parts_of : List Instr → List WholeBody
parts_of code = (read_all code).parts

-- ---- the acts of a body

abbrev implies : Bool → Bool → Bool
implies true b = b
implies false b = true

implied : (a b : Bool) → implies a b ≡ true → a ≡ true → b ≡ true
implied true b h e = h
implied false b h e = absurd cc

abbrev act_before : Bool → Instr → ℕ → Bool
act_before switches i ahead = is_act i && (implies (is_switch i) switches && (has_parts i && nat_le (jump i) ahead))

act_before_sound : (switches : Bool) (i : Instr) (ahead : ℕ) → act_before switches i ahead ≡ true → IsActBefore switches i ahead
act_before_sound switches i ahead e =
    let a = and_parts _ _ e in
    let b = and_parts _ _ a.1 in
    let c = and_parts _ _ b.1 in
    record { act = a.0; switch = implied (is_switch i) switches b.0; parts = parts_sound i c.0; jumps = leb-true (jump i) ahead c.1 }

abbrev acts_before : Bool → ℕ → List Instr → Bool
acts_before switches more [] = true
acts_before switches more (i ∷ rest) = act_before switches i (length rest + more) && acts_before switches more rest

acts_before_sound : (switches : Bool) (more : ℕ) (acts : List Instr) → acts_before switches more acts ≡ true → AreActsBefore switches more acts
acts_before_sound switches more [] e = tt
acts_before_sound switches more (i ∷ rest) e = (act_before_sound switches i (length rest + more) (and_parts _ _ e).0, acts_before_sound switches more rest (and_parts _ _ e).1)

abbrev are_handlers : ℕ → List Handler → Bool
are_handlers cases [] = true
are_handlers cases (h ∷ hs) = (nat_lt h.case cases && acts_before false 0 h.acts) && are_handlers cases hs

handlers_sound : (cases : ℕ) (hs : List Handler) → are_handlers cases hs ≡ true → AllByRecursion (IsHandler cases) hs
handlers_sound cases [] e = tt
handlers_sound cases (h ∷ hs) e =
    let a = and_parts _ _ e in
    let b = and_parts _ _ a.0 in
    (record { case = ltb-true h.case cases b.0; acts = acts_before_sound false 0 h.acts b.1 }, handlers_sound cases hs a.1)

abbrev passes : ℕ → List Act → Bool
passes count [] = nat_eq count 0
passes count (a ∷ rest) = nat_eq count 0 || (nat_le (length (act_code a)) count && passes (count - length (act_code a)) rest)

passes_sound : (count : ℕ) (rest : List Act) → passes count rest ≡ true → PassesOver count rest
passes_sound count [] e = record { acts = 0; few = omega arith; width = eqb-true count 0 e }
passes_sound count (a ∷ rest) e =
    ⊎_elim
    (λ (none : nat_eq count 0 ≡ true).
    let here : PassesOver count (a ∷ rest) = record { acts = 0; few = omega arith; width = eqb-true count 0 none } in
    here)
    (λ (some : (nat_le (length (act_code a)) count && passes (count - length (act_code a)) rest) ≡ true).
    let both = and_parts _ _ some in
    let more : PassesOver (count - length (act_code a)) rest = passes_sound (count - length (act_code a)) rest both.1 in
    further more (leb-true (length (act_code a)) count both.0))
    (or_cases (nat_eq count 0) (nat_le (length (act_code a)) count && passes (count - length (act_code a)) rest) e)
  where
    further : {count : ℕ} {a : Act} {rest : List Act} → PassesOver (count - length (act_code a)) rest → length (act_code a) ≤ count → PassesOver count (a ∷ rest)
    further {count} {a} {rest} more l = record {
      acts = suc more.acts;
      few = omega (arith, more.few);
      width = omega (arith, more.width, l, length-append (act_code a) (acts_code (take more.acts rest)));
    }

abbrev is_one : Body → Act → List Act → Bool
is_one body (plain i) rest = is_act i && (implies (is_switch i) (may_switch body) && (has_parts i && passes (jump i) rest))
is_one body (receiving i hs) rest = is_receive i && (has_parts i && are_handlers (cases_of i) hs)

one_sound : (body : Body) (a : Act) (rest : List Act) → is_one body a rest ≡ true → IsAct body a rest
one_sound body (plain i) rest e =
    let a = and_parts _ _ e in
    let b = and_parts _ _ a.1 in
    let c = and_parts _ _ b.1 in
    record { act = a.0; switch = implied (is_switch i) (may_switch body) b.0; parts = parts_sound i c.0; jumps = passes_sound (jump i) rest c.1 }
one_sound body (receiving i hs) rest e =
    let a = and_parts _ _ e in
    let b = and_parts _ _ a.1 in
    record { receive = a.0; parts = parts_sound i b.0; each = handlers_sound (cases_of i) hs b.1 }

abbrev are_acts : Body → List Act → Bool
are_acts body [] = true
are_acts body (a ∷ rest) = is_one body a rest && are_acts body rest

acts_sound : (body : Body) (acts : List Act) → are_acts body acts ≡ true → AreActs body acts
acts_sound body [] e = tt
acts_sound body (a ∷ rest) e = (one_sound body a rest (and_parts _ _ e).0, acts_sound body rest (and_parts _ _ e).1)

abbrev pub are_parts : List WholeBody → Bool
are_parts [] = true
are_parts (p ∷ rest) = are_acts p.body p.acts && are_parts rest

parts_are : (parts : List WholeBody) → are_parts parts ≡ true → AllByRecursion IsWholeBody parts
parts_are [] e = tt
parts_are (p ∷ rest) e = (acts_sound p.body p.acts (and_parts _ _ e).0, parts_are rest (and_parts _ _ e).1)

-- ---- the order of the bodies

abbrev above : ℕ → List ℕ → Bool
above n [] = true
above n (m ∷ rest) = nat_lt n m && above m rest

abbrev pub are_rising : List ℕ → Bool
are_rising [] = true
are_rising (n ∷ rest) = above n rest

above_rising : (n : ℕ) (rest : List ℕ) → above n rest ≡ true → IsStrictlyIncreasing (n ∷ rest)
above_rising n [] e k l = absurd (omega arith)
above_rising n (m ∷ rest) e zero l = ltb-true n m (and_parts _ _ e).0
above_rising n (m ∷ rest) e (suc k) l =
    let next : suc k + 1 ≡ suc (k + 1) = omega arith in
    rw next (above_rising m rest (and_parts _ _ e).1 k (omega arith))

rising_sound : (list : List ℕ) → are_rising list ≡ true → IsStrictlyIncreasing list
rising_sound [] e = λ k l. absurd (omega arith)
rising_sound (n ∷ rest) e = above_rising n rest e

-- a literal list is an agent's code with so many states and these rows
pub agent_code : (code : List Instr) (states : ℕ) (rows : List RowId) → code ≡ flatten (parts_of code) → nat_le (length code) 1024 ≡ true → map body_of (parts_of code) ≡ agent_bodies states rows → are_rising (map row_number rows) ≡ true → are_parts (parts_of code) ≡ true → IsCode code
agent_code code states rows same few bodies rising fine = record {
  made_of = parts_of code;
  same = same;
  few = leb-true (length code) 1024 few;
  order = inl (record { states = states; rows = rows; rising = rising_sound (map row_number rows) rising; same = bodies });
  each = parts_are (parts_of code) fine;
}

-- or a plain thread's
pub thread_code : (code : List Instr) → code ≡ flatten (parts_of code) → nat_le (length code) 1024 ≡ true → map body_of (parts_of code) ≡ Thread ∷ [] → are_parts (parts_of code) ≡ true → IsCode code
thread_code code same few bodies fine = record {
  made_of = parts_of code;
  same = same;
  few = leb-true (length code) 1024 few;
  order = inr bodies;
  each = parts_are (parts_of code) fine;
}
