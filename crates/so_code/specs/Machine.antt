-- One step of a turn, and its next move: what the code does up to an effect, the end or an exception.
use Rattle.std.specs.Prelude.{ℕ, zero, suc, ◌+◌, ◌-◌, ◌*◌, ℤ, pos, ◌+ℤ◌, ◌-ℤ◌, ◌*ℤ◌, List, length, slice_get, slice_index_or, Option, Some, None, nat_eq, nat_lt, if◌then◌else◌, unwrap_or}
use Rattle.so_ids.specs.declared.StateId.{StateId}
use Rattle.so_ids.specs.declared.Opening.{Opening}
use Rattle.so_ids.specs.declared.Opening.TheVariants.{Start as OpenStart, Finish as OpenFinish, Thread as OpenThread, Time, Event}
use Rattle.so_ids.specs.declared.Chosen.TheVariants.{Transfer}
use Rattle.so_code.specs.declared.instr.Body.{Body}
use Rattle.so_code.specs.declared.instr.Body.TheVariants.{Start, Finish, Enter, Exit, Row, Thread}
use Rattle.so_code.specs.declared.instr.Dest.{Dest}
use Rattle.so_code.specs.declared.instr.Instr.{Instr}
use Rattle.so_code.specs.declared.instr.Instr.TheVariants as instr
use Rattle.so_code.specs.declared.effect.Effect.{Effect}
use Rattle.so_code.specs.declared.effect.Effect.TheVariants as effect
use Rattle.so_code.specs.declared.effect.FailKind.{FailKind}
use Rattle.so_code.specs.declared.effect.FailKind.TheVariants.{Overflow, Thrown}
use Rattle.so_code.specs.declared.effect.Move.{Move}
use Rattle.so_code.specs.declared.effect.Move.TheVariants.{Do, Done, Fail}
use Rattle.so_code.specs.declared.frame.Frame.{Frame}
use Rattle.so_code.specs.declared.frame.Todo.{Todo}
use Rattle.so_code.specs.declared.frame.Todo.TheVariants as todo
use Rattle.so_code.specs.Values.{in_range, holds, value, put, payload}
use Rattle.so_code.specs.Bodies.{body_at}
use Rattle.so_code.specs.Receives.{past, handler_at}

-- a step gives a move, or none where the turn goes on by itself
abbrev pub Step : Type 0
Step = Option Move × Frame

abbrev pub goes_on : Frame → Step
goes_on frame = (None, frame)

abbrev pub next_by : ℕ → Frame → Frame
next_by n frame = record frame { place = frame.place + n }

abbrev pub with_todo : Todo → Frame → Frame
with_todo what frame = record frame { todo = what }

-- the turn waits for the effect's answer
abbrev pub does : Effect → Frame → Step
does effect frame = (Some (Do effect), with_todo (todo.Wait effect) frame)

abbrev pub fails : FailKind → Frame → Step
fails kind frame = (Some (Fail kind), with_todo todo.Over frame)

abbrev pub put_if : Dest → Option ℤ → Frame → Step
put_if to None frame = fails Overflow frame
put_if to (Some n) frame = goes_on (next_by 1 (put frame to n))

abbrev pub is_done : Frame → Step
is_done frame = (Some Done, with_todo todo.Over frame)

-- what is left of the plan: its bodies and the state between them
abbrev pub plan_left : Frame → ℕ
plan_left frame = frame.plan.n_exits + 1 + frame.plan.n_enters - frame.ran

abbrev pub ran_one : Frame → Frame
ran_one frame = record frame { ran = frame.ran + 1 }

-- an exit or enter body leads back into the plan
abbrev pub plan_goes_on : Frame → Step
plan_goes_on frame = if nat_lt 0 (plan_left frame) then goes_on (with_todo todo.Plan (ran_one frame)) else is_done frame

-- what the end of a body leads to
abbrev pub body_ended : Body → Frame → Step
body_ended (Enter s) frame = plan_goes_on frame
body_ended (Exit s) frame = plan_goes_on frame
body_ended Start frame = is_done frame
body_ended Finish frame = is_done frame
body_ended (Row r) frame = is_done frame
body_ended Thread frame = is_done frame

-- one instruction
abbrev pub act : Instr → Frame → Step
act (instr.Set to a) f = goes_on (next_by 1 (put f to (value f a)))
act (instr.Add to a b) f = put_if to (in_range (value f a +ℤ value f b)) f
act (instr.Sub to a b) f = put_if to (in_range (value f a -ℤ value f b)) f
act (instr.Mul to a b) f = put_if to (in_range (value f a *ℤ value f b)) f
act (instr.If a cmp b count) f = goes_on (next_by (if holds cmp (value f a) (value f b) then 1 else count + 1) f)
act (instr.Skip count) f = goes_on (next_by (count + 1) f)
act (instr.Throw a) f = fails (Thrown (value f a)) f
act (instr.Log text args) f = does (effect.Log text (payload f args)) f
act (instr.Send target msg args) f = does (effect.Send target msg (payload f args)) f
act (instr.Delayed target msg ms args) f = does (effect.Delayed target msg (payload f args) ms) f
act (instr.Timer slot target msg ms period args) f = does (effect.Timer slot target msg (payload f args) ms period) f
act (instr.Cancel slot) f = does (effect.Cancel slot) f
act (instr.Switch to) f = does (effect.Switch to) (record f { back = Some (f.place + 1) })
act (instr.Subscribe row) f = does (effect.Subscribe row) f
act (instr.Unsubscribe row) f = does (effect.Unsubscribe row) f
act (instr.SetFilter filter) f = does (effect.SetFilter filter) f
act (instr.DropFilter filter) f = does (effect.DropFilter filter) f
act (instr.Register coop) f = does (effect.Register coop) f
act (instr.Deregister coop) f = does (effect.Deregister coop) f
act instr.Stop f = does effect.Stop f
act (instr.Close chain keep) f = does (effect.Close chain keep) f
act (instr.Receive chains cases handle_n extract_n empty_timeout total_time no_wait) f =
    does (effect.Receive f.place) (record f { receive = f.place; handles_left = handle_n; extracts_left = extract_n; aside = f.msg })
act (instr.Case case msg) f = goes_on (next_by 1 f)
act instr.Back f = goes_on (with_todo todo.Take (record f { handles_left = f.handles_left - 1 }))
act (instr.End body) f = body_ended body f

abbrev pub act_at : Option Instr → Frame → Step
act_at None f = is_done f
act_at (Some i) f = act i f

-- to the first act of a body, or past a body that there is not
abbrev pub enter_body : Option ℕ → Frame → Step
enter_body None f = goes_on (ran_one f)
enter_body (Some place) f = goes_on (record f { todo = todo.Act; place = place })

-- the switch is over: back into the body that made it, or on by the opening
abbrev pub landed : Option ℕ → Opening → Frame → Frame
landed (Some place) opening f = record f { todo = todo.Act; place = place; back = None }
landed None (Event (Transfer from to)) f = with_todo todo.Choose f
landed None (Event other) f = with_todo todo.Over f
landed None OpenStart f = with_todo todo.Over f
landed None OpenFinish f = with_todo todo.Over f
landed None OpenThread f = with_todo todo.Over f
landed None (Time to) f = with_todo todo.Over f

abbrev pub state_in : List StateId → ℕ → StateId
state_in list k = slice_index_or list k (record { 0 = 0 })

-- the exit bodies, the state, the enter bodies
abbrev pub plan_step : List Instr → Frame → Step
plan_step code f =
    if nat_lt f.ran f.plan.n_exits then enter_body (body_at code (Exit (state_in f.plan.exits f.ran))) f
    else (if nat_eq f.ran f.plan.n_exits then does (effect.SetState f.plan.leaf) f
    else (if nat_lt (f.ran - f.plan.n_exits - 1) f.plan.n_enters then enter_body (body_at code (Enter (state_in f.plan.enters (f.ran - f.plan.n_exits - 1)))) f
    else goes_on (landed f.back f.opening f)))

-- the receive is over
abbrev pub leave : ℕ → List Instr → Frame → Frame
leave ans code f = record f { todo = todo.Act; place = past code f.receive; msg = f.aside; ans = pos ans }

-- before a take
abbrev pub take_step : List Instr → Frame → Step
take_step code f =
    if nat_eq f.handles_left 0 then goes_on (leave 1 code f)
    else (if nat_eq f.extracts_left 0 then goes_on (leave 2 code f)
    else does (effect.Take f.receive) f)

-- to the handler's first act, or to the next take
abbrev pub handle_step : Option ℕ → Frame → Step
handle_step None f = goes_on (with_todo todo.Take f)
handle_step (Some place) f = goes_on (record f { todo = todo.Act; place = place })

-- to the turn's body
abbrev pub open_step : Option ℕ → Frame → Step
open_step None f = is_done f
open_step (Some place) f = goes_on (record f { todo = todo.Act; place = place })

abbrev pub step_of : Todo → List Instr → Frame → Step
step_of todo.Act code f = act_at (slice_get code f.place) f
step_of (todo.Open body) code f = open_step (body_at code body) f
step_of (todo.Switch to) code f = does (effect.Switch to) f
step_of todo.Choose code f = does effect.Choose f
step_of todo.Plan code f = plan_step code f
step_of todo.Take code f = take_step code f
step_of (todo.Handle case msg) code f = handle_step (handler_at code f.receive case msg) f
step_of (todo.Past ans) code f = goes_on (leave ans code f)
step_of (todo.Raise kind) code f = fails kind f
step_of todo.Over code f = is_done f
step_of (todo.Wait effect) code f = is_done f

abbrev pub step : List Instr → Frame → Step
step code f = step_of f.todo code f

abbrev pub go_on : (Frame → Option (Move × Frame)) → Step → Option (Move × Frame)
go_on further (None, f) = further f
go_on further (Some move, f) = Some (move, f)

-- the first move within n steps, with the frame after it
abbrev pub first_move : ℕ → List Instr → Frame → Option (Move × Frame)
first_move zero code f = None
first_move (suc n) code f = go_on (first_move n code) (step code f)

-- more steps than a move of a frame ever takes, so that the next move is free of their number (so_code_laws, step_moves and
-- step_goes_on): a plan has at most 33 parts, and each of them, and what comes before
-- them, takes less than twice the code's length and three
abbrev pub steps : List Instr → ℕ
steps code = 34 * (2 * length code + 3)

-- the turn's next move, with the frame after it
unfoldable pub after : List Instr → Frame → Move × Frame
after code f = unwrap_or (first_move (steps code) code f) (Done, with_todo todo.Over f)
