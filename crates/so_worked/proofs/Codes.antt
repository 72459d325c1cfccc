-- The moves of turns: what each asks for, one after the other, where it gets these answers.
use Rattle.std.proofs.Common.{◌≡◌, ℕ, List, [], ◌∷◌, Bool, true, false, zero, suc, ◌<◌, Some, None, arith, refl, sym}
use Rattle.std.specs.Prelude.{ℤ, pos, negsuc, map, replicate, slice_get}
use Rattle.so_ids.specs.declared.StateId.{StateId}
use Rattle.so_ids.specs.declared.Opening.{Opening}
use Rattle.so_ids.specs.declared.Opening.TheVariants as opening
use Rattle.so_ids.specs.declared.Chosen.{Chosen}
use Rattle.so_ids.specs.declared.Chosen.TheVariants as chosen
use Rattle.so_ids.specs.declared.Payload.{Payload}
use Rattle.so_ids.specs.declared.EndReason.TheVariants.{Closed}
use Rattle.so_ids.specs.declared.Target.TheVariants.{Mbox}
use Rattle.so_state.specs.declared.choice.Row.{Row as StateRow}
use Rattle.so_state.specs.declared.choice.RowKind.{RowKind}
use Rattle.so_state.specs.declared.choice.RowKind.TheVariants as kind
use Rattle.so_state.specs.Plan.{plan_of}
use Rattle.so_code.specs.declared.instr.Args.{Args}
use Rattle.so_code.specs.declared.instr.Body.{Body}
use Rattle.so_code.specs.declared.instr.Body.TheVariants.{Start, Finish, Thread, Row, Enter, Exit}
use Rattle.so_code.specs.declared.instr.Cmp.{Cmp}
use Rattle.so_code.specs.declared.instr.Cmp.TheVariants.{Eq, Ne, Lt, Le, Gt, Ge}
use Rattle.so_code.specs.declared.instr.Dest.TheVariants as dest
use Rattle.so_code.specs.declared.instr.Operand.{Operand}
use Rattle.so_code.specs.declared.instr.Operand.TheVariants.{Num, Var, Msg, Temp, Ans}
use Rattle.so_code.specs.declared.instr.Instr.{Instr}
use Rattle.so_code.specs.declared.instr.Instr.TheVariants as instr
use Rattle.so_code.specs.declared.effect.Answer.{Answer}
use Rattle.so_code.specs.declared.effect.Answer.TheVariants as answer
use Rattle.so_code.specs.declared.effect.Effect.TheVariants as effect
use Rattle.so_code.specs.declared.effect.FailKind.TheVariants.{Overflow, Thrown, TransferLoop}
use Rattle.so_code.specs.declared.effect.Move.{Move}
use Rattle.so_code.specs.declared.effect.Move.TheVariants.{Do, Done, Fail}
use Rattle.so_code.specs.declared.frame.Frame.{Frame}
use Rattle.so_code.specs.Values.{holds}
use Rattle.so_code.specs.Bodies.{body_at, bodies_in}
use Rattle.so_code.specs.Shape.{agent_bodies}
use Rattle.so_code.specs.Differs.{IsFirstDifference}
use Rattle.so_code.specs.Openings.{first_frame}
use Rattle.so_code.specs.Machine.{after}
use Rattle.so_code.specs.Answers.{answered}
use Rattle.so_scene.specs.Checked.{handlers}

-- ---- turns

-- the moves of a turn that gets these answers, and the one that follows them
abbrev moves : List Instr → List Answer → Frame → List Move
moves code [] f = (after code f).0 ∷ []
moves code (a ∷ answers) f = (after code f).0 ∷ moves code answers (answered a (after code f).1)

abbrev one : ℤ → Payload
one n = record { fields = n ∷ pos 0 ∷ pos 0 ∷ pos 0 ∷ []; used = 1 }

abbrev nothing : Payload
nothing = record { fields = replicate 4 (pos 0); used = 0 }

-- a turn of an agent whose first variable is this
abbrev turn : Opening → ℤ → Payload → Frame
turn o first msg = first_frame o (record { 0 = first ∷ replicate 15 (pos 0) }) msg

abbrev row_turn : ℤ → Frame
row_turn field = turn (opening.Event (chosen.Run (record { 0 = 0 }))) (pos 0) (one field)

-- ---- acts, moves and answers

abbrev no_operands : Args
no_operands = record { list = replicate 4 (Num (pos 0)); used = 0 }

abbrev operand : Operand → Args
operand a = record { list = a ∷ replicate 3 (Num (pos 0)); used = 1 }

abbrev log : ℕ → Args → Instr
log text args = instr.Log (record { 0 = text }) args

abbrev send : ℕ → ℕ → Args → Instr
send mbox msg args = instr.Send (Mbox (record { 0 = mbox })) (record { 0 = msg }) args

abbrev logs : ℕ → Payload → Move
logs text payload = Do (effect.Log (record { 0 = text }) payload)

abbrev sends : ℕ → ℕ → Payload → Move
sends mbox msg payload = Do (effect.Send (Mbox (record { 0 = mbox })) (record { 0 = msg }) payload)

abbrev queued : ℕ → Answer
queued n = answer.Sent (record { queued = n; lost = 0; logged = 0; first = None })

abbrev state_1 : StateId
state_1 = record { 0 = 1 }

-- ---- a row that logs what it gets and sends it back

abbrev echo : List Instr
echo = instr.End Start ∷ instr.End Finish ∷ log 0 (operand (Msg 0)) ∷ send 0 1 (operand (Msg 0)) ∷ instr.End (Row (record { 0 = 0 })) ∷ []

a_body_gives_its_effects_in_order : moves echo (answer.Okay ∷ queued 1 ∷ []) (row_turn (pos 7)) ≡ (logs 0 (one (pos 7)) ∷ sends 0 1 (one (pos 7)) ∷ Done ∷ [])
unfolding after
a_body_gives_its_effects_in_order = refl

-- ---- a row that sends one more up to 10, and then stops

abbrev counting : List Instr
counting =
    send 1 0 (operand (Num (pos 1)))
    ∷ instr.End Start
    ∷ instr.End Finish
    ∷ instr.If (Msg 0) Lt (Num (pos 10)) 3
    ∷ instr.Add (dest.Temp 0) (Msg 0) (Num (pos 1))
    ∷ send 1 0 (operand (Temp 0))
    ∷ instr.Skip 1
    ∷ instr.Stop
    ∷ instr.End (Row (record { 0 = 0 }))
    ∷ []

an_if_passes_over_its_acts :
    (moves counting (queued 1 ∷ []) (row_turn (pos 3)) ∷ moves counting (queued 1 ∷ []) (row_turn (pos 9)) ∷ moves counting (answer.Okay ∷ []) (row_turn (pos 10)) ∷ [])
    ≡ ((sends 1 0 (one (pos 4)) ∷ Done ∷ []) ∷ (sends 1 0 (one (pos 10)) ∷ Done ∷ []) ∷ (Do effect.Stop ∷ Done ∷ []) ∷ [])
unfolding after
an_if_passes_over_its_acts = refl

-- ---- a start that multiplies its variable by itself, and a finish that throws

abbrev failing : List Instr
failing = instr.Mul (dest.Var 0) (Var 0) (Var 0) ∷ instr.End Start ∷ instr.Throw (Num (negsuc 2)) ∷ instr.End Finish ∷ []

a_product_that_does_not_fit_and_a_throw_are_exceptions :
    (moves failing [] (turn opening.Start (pos 3037000499) nothing) ∷ moves failing [] (turn opening.Start (pos 3037000500) nothing) ∷ moves failing [] (turn opening.Finish (pos 0) nothing) ∷ [])
    ≡ ((Done ∷ []) ∷ (Fail Overflow ∷ []) ∷ (Fail (Thrown (negsuc 2)) ∷ []) ∷ [])
unfolding after
a_product_that_does_not_fit_and_a_throw_are_exceptions = refl

-- ---- a start that switches to state 1 and logs, and the handlers of that state

abbrev switching : List Instr
switching =
    instr.Switch state_1
    ∷ log 9 (operand Ans)
    ∷ instr.End Start
    ∷ instr.End Finish
    ∷ log 1 (operand (Msg 0))
    ∷ instr.End (Enter state_1)
    ∷ log 2 no_operands
    ∷ instr.End (Exit state_1)
    ∷ []

-- out of a state and into state 1
abbrev plan_from : ℕ → Answer
plan_from out = answer.Planned (plan_of state_1 (record { 0 = out } ∷ []) (state_1 ∷ []))

a_switch_runs_its_plan_and_comes_back :
    moves switching (plan_from 1 ∷ answer.Okay ∷ answer.Okay ∷ answer.Okay ∷ answer.Okay ∷ []) (turn opening.Start (pos 0) nothing)
    ≡ (Do (effect.Switch state_1) ∷ logs 2 nothing ∷ Do (effect.SetState state_1) ∷ logs 1 (one (pos 0)) ∷ logs 9 (one (pos 0)) ∷ Done ∷ [])
unfolding after
a_switch_runs_its_plan_and_comes_back = refl

abbrev transfer : Chosen
transfer = chosen.Transfer state_1 state_1

a_state_transfers_an_event_once :
    moves switching (plan_from 0 ∷ answer.Okay ∷ answer.Okay ∷ answer.Chose transfer ∷ []) (turn (opening.Event transfer) (pos 0) (one (pos 5)))
    ≡ (Do (effect.Switch state_1) ∷ Do (effect.SetState state_1) ∷ logs 1 (one (pos 5)) ∷ Do effect.Choose ∷ Fail TransferLoop ∷ [])
unfolding after
a_state_transfers_an_event_once = refl

-- ---- a thread that receives two messages, and then logs why

abbrev receiving : List Instr
receiving =
    instr.Receive (replicate 8 (record { 0 = 0 })) 2 2 10000 None None false
    ∷ instr.Case 0 (record { 0 = 0 })
    ∷ log 0 (operand (Msg 0))
    ∷ instr.Back
    ∷ instr.Case 1 (record { 0 = 1 })
    ∷ instr.Back
    ∷ log 1 (operand Ans)
    ∷ instr.End Thread
    ∷ []

abbrev got : ℕ → ℕ → ℤ → Answer
got case msg n = answer.Got case (record { 0 = msg }) (one n)

abbrev take : Move
take = Do (effect.Take 0)

-- the second message has no handler and isn't counted
a_receive_handles_its_cases_until_it_has_enough :
    moves receiving (answer.Okay ∷ got 0 0 (pos 7) ∷ answer.Okay ∷ got 0 1 (pos 99) ∷ got 1 1 (pos 8) ∷ answer.Okay ∷ []) (turn opening.Thread (pos 0) (one (pos 5)))
    ≡ (Do (effect.Receive 0) ∷ take ∷ logs 0 (one (pos 7)) ∷ take ∷ take ∷ logs 1 (one (pos 1)) ∷ Done ∷ [])
unfolding after
a_receive_handles_its_cases_until_it_has_enough = refl

a_receive_ends_where_its_chains_are_closed :
    moves receiving (answer.Okay ∷ answer.Ended Closed ∷ answer.Okay ∷ []) (turn opening.Thread (pos 0) (one (pos 5)))
    ≡ (Do (effect.Receive 0) ∷ take ∷ logs 1 (one (pos 6)) ∷ Done ∷ [])
unfolding after
a_receive_ends_where_its_chains_are_closed = refl

-- a field of the message is logged in the receive and after it
abbrev taking_one : List Instr
taking_one = instr.Receive (replicate 8 (record { 0 = 0 })) 1 1 10000 None None false ∷ instr.Case 0 (record { 0 = 0 }) ∷ log 0 (operand (Msg 0)) ∷ instr.Back ∷ log 1 (operand (Msg 0)) ∷ instr.End Thread ∷ []

after_a_receive_the_message_is_the_one_before_it :
    moves taking_one (answer.Okay ∷ got 0 0 (pos 7) ∷ answer.Okay ∷ answer.Okay ∷ []) (turn opening.Thread (pos 0) (one (pos 5)))
    ≡ (Do (effect.Receive 0) ∷ take ∷ logs 0 (one (pos 7)) ∷ logs 1 (one (pos 5)) ∷ Done ∷ [])
unfolding after
after_a_receive_the_message_is_the_one_before_it = refl

-- ---- the bodies of an agent's code

abbrev row : ℕ → RowKind → StateRow
row msg k = record { mbox = record { 0 = 0 }; msg = record { 0 = msg }; state = record { 0 = 0 }; kind = k; safe = false; active = true }

-- of an agent with two states, and with rows of which the first and the last have handlers
abbrev in_order : List Body
in_order = Start ∷ Finish ∷ Enter state_1 ∷ Exit state_1 ∷ Enter (record { 0 = 2 }) ∷ Exit (record { 0 = 2 }) ∷ Row (record { 0 = 0 }) ∷ Row (record { 0 = 3 }) ∷ []

abbrev with_an_act : List Body → List Instr
with_an_act [] = []
with_an_act (body ∷ bodies) = instr.Stop ∷ instr.End body ∷ with_an_act bodies

-- the start has two acts, and each other body one
abbrev of_agent : List Instr
of_agent = instr.Skip 0 ∷ with_an_act in_order

-- each begins after the end of the one before, and no other is there
bodies_stand_in_order :
    (agent_bodies 2 (handlers (row 0 kind.Run ∷ row 1 kind.Suppress ∷ row 2 (kind.Switch state_1) ∷ row 3 kind.Dead ∷ [])) ≡ in_order)
    × (bodies_in of_agent ≡ in_order)
    × (map (body_at of_agent) in_order ≡ Some 0 ∷ Some 3 ∷ Some 5 ∷ Some 7 ∷ Some 9 ∷ Some 11 ∷ Some 13 ∷ Some 15 ∷ [])
    × (map (body_at of_agent) (Row (record { 0 = 1 }) ∷ Enter (record { 0 = 3 }) ∷ Thread ∷ []) ≡ None ∷ None ∷ None ∷ [])
bodies_stand_in_order = (refl, refl, refl, refl)

-- ---- where two codes differ

abbrev two_bodies : List Instr
two_bodies = instr.End Start ∷ instr.End Finish ∷ []

abbrev three_bodies : List Instr
three_bodies = instr.End Start ∷ instr.End Finish ∷ instr.End (Row (record { 0 = 0 })) ∷ []

abbrev stopping : List Instr
stopping = instr.Stop ∷ instr.End Start ∷ instr.End Finish ∷ []

same_first_two : (k : ℕ) → k < 2 → slice_get two_bodies k ≡ slice_get three_bodies k
same_first_two zero l = refl
same_first_two (suc zero) l = refl
same_first_two (suc (suc k)) l = absurd (omega arith)

-- at the end of the shorter, whichever comes first, and at an instruction
codes_differ_first_where_they_part : IsFirstDifference two_bodies three_bodies 2 × IsFirstDifference three_bodies two_bodies 2 × IsFirstDifference stopping three_bodies 0
codes_differ_first_where_they_part = (
  record { before = same_first_two; here = λ e. cc },
  record { before = λ k l. sym (same_first_two k l); here = λ e. cc },
  record { before = λ k l. absurd (omega arith); here = λ e. cc },
)

equal_codes_differ_nowhere : (code : List Instr) (k : ℕ) → IsFirstDifference code code k → ⊥
equal_codes_differ_nowhere code k differ = differ.here refl

-- ---- comparisons

-- of -1 with 2, 3 with 3, and 5 with 4
abbrev held : Cmp → List Bool
held cmp = holds cmp (negsuc 0) (pos 2) ∷ holds cmp (pos 3) (pos 3) ∷ holds cmp (pos 5) (pos 4) ∷ []

a_comparison_holds_as_it_reads :
    map held (Eq ∷ Ne ∷ Lt ∷ Le ∷ Gt ∷ Ge ∷ [])
    ≡ (
    (false ∷ true ∷ false ∷ [])
    ∷ (true ∷ false ∷ true ∷ [])
    ∷ (true ∷ false ∷ false ∷ [])
    ∷ (true ∷ true ∷ false ∷ [])
    ∷ (false ∷ false ∷ true ∷ [])
    ∷ (false ∷ true ∷ true ∷ [])
    ∷ [])
a_comparison_holds_as_it_reads = refl
