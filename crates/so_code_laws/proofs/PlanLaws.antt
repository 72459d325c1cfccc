-- A plan does its parts in order, and a state transfers an event once.
use Rattle.std.proofs.Common.{◌≡◌, ◌≢◌, ℕ, zero, suc, ◌+◌, ◌-◌, ◌^◌, ◌<◌, ◌≤◌, Bool, true, false, List, [], ◌∷◌, ◌++◌, length, take, Option, Some, None, arith, refl, sym, ap, ◌∙◌, length-append}
use Rattle.std.specs.Prelude.{slice_get, map, nat_lt, nat_eq, if◌then◌else◌, bit_and, bit_or}
use Rattle.std.proofs.lemmas.Bool.{ltb-true, eqb-true, ltb-false, eqb-false}
use Rattle.std.proofs.lemmas.Option.{slice_get_past}
use Rattle.std.proofs.lemmas.Nat.{and_or_self, and_or_apart, pow_apart, pow_pos}
use Rattle.so_ids.specs.declared.StateId.{StateId}
use Rattle.so_code.specs.declared.instr.Body.TheVariants.{Enter, Exit}
use Rattle.so_code.specs.declared.instr.Instr.{Instr}
use Rattle.so_code.specs.declared.effect.Effect.TheVariants.{SetState}
use Rattle.so_code.specs.declared.effect.FailKind.TheVariants.{TransferLoop}
use Rattle.so_code.specs.declared.frame.Frame.{Frame}
use Rattle.so_code.specs.declared.frame.Todo.TheVariants as todo
use Rattle.so_code.specs.Bodies.{body_at}
use Rattle.so_code.specs.Machine.{with_todo, goes_on, does, enter_body, landed, state_in, plan_step}
use Rattle.so_code.specs.Answers.{has_transferred}
use Rattle.so_code_laws.specs.Plans.{PlanPart, leaves, arrives, enters, plan_parts, do_part, TransfersOnce}

-- ---- the parts of a plan

-- the states of one half of a plan, as its parts
states_as : (of : StateId → PlanPart) (n k : ℕ) (list : List StateId) → k < n → n ≤ length list → slice_get (map of (take n list)) k ≡ Some (of (state_in list k))
states_as of zero k list l w = absurd (omega arith)
states_as of (suc n) k [] l w = absurd (omega arith)
states_as of (suc n) zero (s ∷ list) l w = refl
states_as of (suc n) (suc k) (s ∷ list) l w = states_as of n k list (omega arith) (omega arith)

states_length : (of : StateId → PlanPart) (n : ℕ) (list : List StateId) → n ≤ length list → length (map of (take n list)) ≡ n
states_length of zero list w = refl
states_length of (suc n) [] w = absurd (omega arith)
states_length of (suc n) (s ∷ list) w = omega (arith, states_length of n list (omega arith))

-- an element of two lists with one between them
at_first : (xs ys : List PlanPart) (p : PlanPart) (k : ℕ) → k < length xs → slice_get (xs ++ p ∷ ys) k ≡ slice_get xs k
at_first [] ys p k l = absurd (omega arith)
at_first (x ∷ xs) ys p zero l = refl
at_first (x ∷ xs) ys p (suc k) l = at_first xs ys p k (omega arith)

at_between : (xs ys : List PlanPart) (p : PlanPart) (k : ℕ) → k ≡ length xs → slice_get (xs ++ p ∷ ys) k ≡ Some p
at_between [] ys p zero e = refl
at_between [] ys p (suc k) e = absurd (omega arith)
at_between (x ∷ xs) ys p zero e = absurd (omega arith)
at_between (x ∷ xs) ys p (suc k) e = at_between xs ys p k (omega arith)

at_second : (xs ys : List PlanPart) (p : PlanPart) (k n : ℕ) → k ≡ length xs + 1 + n → slice_get (xs ++ p ∷ ys) k ≡ slice_get ys n
at_second [] ys p zero n e = absurd (omega arith)
at_second [] ys p (suc k) n e = let same : k ≡ n = omega arith in rw same refl
at_second (x ∷ xs) ys p zero n e = absurd (omega arith)
at_second (x ∷ xs) ys p (suc k) n e = at_second xs ys p k n (omega arith)

module _ (code : List Instr) (f : Frame) (left : f.plan.n_exits ≤ length f.plan.exits) (entered : f.plan.n_enters ≤ length f.plan.enters) where
  part_at : ℕ → Option PlanPart
  part_at k = slice_get (plan_parts f.plan) k

  by_part : (a b c : Bool) → nat_lt f.ran f.plan.n_exits ≡ a → nat_eq f.ran f.plan.n_exits ≡ b → nat_lt (f.ran - f.plan.n_exits - 1) f.plan.n_enters ≡ c → (if a then enter_body (body_at code (Exit (state_in f.plan.exits f.ran))) f else (if b then does (SetState f.plan.leaf) f else (if c then enter_body (body_at code (Enter (state_in f.plan.enters (f.ran - f.plan.n_exits - 1)))) f else goes_on (landed f.back f.opening f)))) ≡ do_part code (slice_get (plan_parts f.plan) f.ran) f
  by_part true b c ea eb ec =
      let l : f.ran < f.plan.n_exits = ltb-true f.ran f.plan.n_exits ea in
      let long : length (map leaves (take f.plan.n_exits f.plan.exits)) ≡ f.plan.n_exits = states_length leaves f.plan.n_exits f.plan.exits left in
      let here : slice_get (plan_parts f.plan) f.ran ≡ Some (leaves (state_in f.plan.exits f.ran)) = at_first (map leaves (take f.plan.n_exits f.plan.exits)) (map enters (take f.plan.n_enters f.plan.enters)) arrives f.ran (omega (arith, l, long)) ∙ states_as leaves f.plan.n_exits f.ran f.plan.exits l left in
      sym (ap (λ o. do_part code o f) here)
  by_part false true c ea eb ec =
      let e : f.ran ≡ f.plan.n_exits = eqb-true f.ran f.plan.n_exits eb in
      let long : length (map leaves (take f.plan.n_exits f.plan.exits)) ≡ f.plan.n_exits = states_length leaves f.plan.n_exits f.plan.exits left in
      let here : slice_get (plan_parts f.plan) f.ran ≡ Some arrives = at_between (map leaves (take f.plan.n_exits f.plan.exits)) (map enters (take f.plan.n_enters f.plan.enters)) arrives f.ran (omega (arith, e, long)) in
      sym (ap (λ o. do_part code o f) here)
  by_part false false true ea eb ec =
      let l : f.ran - f.plan.n_exits - 1 < f.plan.n_enters = ltb-true (f.ran - f.plan.n_exits - 1) f.plan.n_enters ec in
      let far : f.plan.n_exits ≤ f.ran = ltb-false f.ran f.plan.n_exits ea in
      let other : f.ran ≢ f.plan.n_exits = eqb-false f.ran f.plan.n_exits eb in
      let long : length (map leaves (take f.plan.n_exits f.plan.exits)) ≡ f.plan.n_exits = states_length leaves f.plan.n_exits f.plan.exits left in
      let sum : f.ran ≡ length (map leaves (take f.plan.n_exits f.plan.exits)) + 1 + (f.ran - f.plan.n_exits - 1) = omega (arith, far, other, long) in
      let here : slice_get (plan_parts f.plan) f.ran ≡ Some (enters (state_in f.plan.enters (f.ran - f.plan.n_exits - 1))) = at_second (map leaves (take f.plan.n_exits f.plan.exits)) (map enters (take f.plan.n_enters f.plan.enters)) arrives f.ran (f.ran - f.plan.n_exits - 1) sum ∙ states_as enters f.plan.n_enters (f.ran - f.plan.n_exits - 1) f.plan.enters l entered in
      sym (ap (λ o. do_part code o f) here)
  by_part false false false ea eb ec =
      let past : f.plan.n_enters ≤ f.ran - f.plan.n_exits - 1 = ltb-false (f.ran - f.plan.n_exits - 1) f.plan.n_enters ec in
      let far : f.plan.n_exits ≤ f.ran = ltb-false f.ran f.plan.n_exits ea in
      let other : f.ran ≢ f.plan.n_exits = eqb-false f.ran f.plan.n_exits eb in
      let long : length (map leaves (take f.plan.n_exits f.plan.exits)) ≡ f.plan.n_exits = states_length leaves f.plan.n_exits f.plan.exits left in
      let longer : length (map enters (take f.plan.n_enters f.plan.enters)) ≡ f.plan.n_enters = states_length enters f.plan.n_enters f.plan.enters entered in
      let all : length (plan_parts f.plan) ≡ length (map leaves (take f.plan.n_exits f.plan.exits)) + suc (length (map enters (take f.plan.n_enters f.plan.enters))) = length-append (map leaves (take f.plan.n_exits f.plan.exits)) (arrives ∷ map enters (take f.plan.n_enters f.plan.enters)) in
      let here : slice_get (plan_parts f.plan) f.ran ≡ None = slice_get_past (plan_parts f.plan) f.ran (omega (arith, past, far, other, long, longer, all)) in
      sym (ap (λ o. do_part code o f) here)

  -- the plan's next step is the next of its parts
  pub parts_in_order : plan_step code f ≡ do_part code (slice_get (plan_parts f.plan) f.ran) f
  parts_in_order = by_part (nat_lt f.ran f.plan.n_exits) (nat_eq f.ran f.plan.n_exits) (nat_lt (f.ran - f.plan.n_exits - 1) f.plan.n_enters) refl refl refl

-- ---- a transfer

bit_marked : (bits n : ℕ) → (if nat_eq (bit_and (bit_or bits (2 ^ n)) (2 ^ n)) 0 then false else true) ≡ true
bit_marked bits n = by_bit (nat_eq (bit_and (bit_or bits (2 ^ n)) (2 ^ n)) 0) refl
  where
    by_bit : (b : Bool) → nat_eq (bit_and (bit_or bits (2 ^ n)) (2 ^ n)) 0 ≡ b → (if b then false else true) ≡ true
    by_bit true e =
        let zero_is : bit_and (bit_or bits (2 ^ n)) (2 ^ n) ≡ 0 = eqb-true (bit_and (bit_or bits (2 ^ n)) (2 ^ n)) 0 e in
        absurd (omega (arith, zero_is, and_or_self (2 ^ n) bits, pow_pos n))
    by_bit false e = refl

-- the frame after a transfer that is let through
abbrev through : Frame → StateId → StateId → Frame
through f from to = with_todo (todo.Switch to) (record f { transferred = bit_or f.transferred (2 ^ from.0) })

module _ (f : Frame) (from to : StateId) where
  first_by : (b : Bool) → b ≡ false → (if b then with_todo (todo.Raise TransferLoop) f else through f from to).todo ≡ todo.Switch to
  first_by true e = absurd cc
  first_by false e = refl

  second_by : (b : Bool) → b ≡ true → (if b then with_todo (todo.Raise TransferLoop) f else through f from to).todo ≡ todo.Raise TransferLoop
  second_by true e = refl
  second_by false e = absurd cc

  marks_by : (b : Bool) → has_transferred f from ≡ b → has_transferred (if b then with_todo (todo.Raise TransferLoop) f else through f from to) from ≡ true
  marks_by true e = e
  marks_by false e = bit_marked f.transferred from.0

  spares_by : (b : Bool) (s : StateId) → s.0 ≢ from.0 → has_transferred (if b then with_todo (todo.Raise TransferLoop) f else through f from to) s ≡ has_transferred f s
  spares_by true s other = refl
  spares_by false s other = ap (λ n. if nat_eq n 0 then false else true) (and_or_apart (2 ^ s.0) f.transferred (2 ^ from.0) (pow_apart from.0 s.0 (λ e. other (sym e))))

  -- a state transfers an event once, and the others are not marked by it
  pub transfers_once : TransfersOnce f from to
  transfers_once = record {
    first = λ e. first_by (has_transferred f from) e;
    second = λ e. second_by (has_transferred f from) e;
    marks = marks_by (has_transferred f from) refl;
    spares = λ s other. spares_by (has_transferred f from) s other;
  }
