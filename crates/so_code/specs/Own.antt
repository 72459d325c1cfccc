-- Turns that run acts alone: without a switch, a transfer or a receive.
use Rattle.std.specs.Prelude.{◌≡◌, Bool, true, false, List, Option, Some, None}
use Rattle.so_ids.specs.declared.Opening.{Opening}
use Rattle.so_ids.specs.declared.Opening.TheVariants as opening
use Rattle.so_ids.specs.declared.Chosen.TheVariants as chosen
use Rattle.so_code.specs.declared.instr.Instr.{Instr}
use Rattle.so_code.specs.declared.instr.Instr.TheVariants as instr
use Rattle.so_code.specs.declared.effect.Effect.{Effect}
use Rattle.so_code.specs.declared.effect.Effect.TheVariants as effect
use Rattle.so_code.specs.declared.frame.Frame.{Frame}
use Rattle.so_code.specs.declared.frame.Todo.{Todo}
use Rattle.so_code.specs.declared.frame.Todo.TheVariants as todo
use Rattle.so_code.specs.Values.{payload}
use Rattle.so_code.specs.Machine.{plan_left}
use Rattle.so_code.specs.Places.{IsAt}

-- what an act asks for, where it asks for an effect of its own
abbrev pub effect_of : Instr → Frame → Option Effect
effect_of (instr.Log text args) f = Some (effect.Log text (payload f args))
effect_of (instr.Send target msg args) f = Some (effect.Send target msg (payload f args))
effect_of (instr.Delayed target msg ms args) f = Some (effect.Delayed target msg (payload f args) ms)
effect_of (instr.Timer slot target msg ms period args) f = Some (effect.Timer slot target msg (payload f args) ms period)
effect_of (instr.Cancel slot) f = Some (effect.Cancel slot)
effect_of (instr.Subscribe row) f = Some (effect.Subscribe row)
effect_of (instr.Unsubscribe row) f = Some (effect.Unsubscribe row)
effect_of (instr.SetFilter filter) f = Some (effect.SetFilter filter)
effect_of (instr.DropFilter filter) f = Some (effect.DropFilter filter)
effect_of (instr.Register coop) f = Some (effect.Register coop)
effect_of (instr.Deregister coop) f = Some (effect.Deregister coop)
effect_of instr.Stop f = Some effect.Stop
effect_of (instr.Close chain keep) f = Some (effect.Close chain keep)
effect_of other f = None

-- no switch, no receive and none of its marks
abbrev pub is_own : Instr → Bool
is_own (instr.Switch to) = false
is_own (instr.Receive chains cases handle_n extract_n empty_timeout total_time no_wait) = false
is_own (instr.Case case msg) = false
is_own instr.Back = false
is_own other = true

-- not a part of a switch, a transfer or a receive
abbrev pub is_own_effect : Effect → Bool
is_own_effect (effect.Switch to) = false
is_own_effect (effect.SetState leaf) = false
is_own_effect effect.Choose = false
is_own_effect (effect.Receive place) = false
is_own_effect (effect.Take place) = false
is_own_effect other = true

abbrev pub opens_acts : Opening → Bool
opens_acts (opening.Time to) = false
opens_acts (opening.Event (chosen.Switch to)) = false
opens_acts (opening.Event (chosen.Transfer from to)) = false
opens_acts other = true

abbrev pub runs_acts : Todo → Bool
runs_acts todo.Act = true
runs_acts (todo.Open body) = true
runs_acts (todo.Raise kind) = true
runs_acts todo.Over = true
runs_acts (todo.Wait e) = is_own_effect e
runs_acts other = false

-- the frame of a turn that has run acts alone
pub record RunsActs (f : Frame) : Type 0 where
  pub todo : runs_acts f.todo ≡ true
  pub no_plan : plan_left f ≡ 0

-- the effect for which the frame waits was asked for by an act of the code, at the frame's place, that passes the test
pub record IsOwnAct (code : List Instr) (allowed : Instr → Bool) (e : Effect) (f : Frame) : Type 0 where
  pub instr : Instr
  pub here : IsAt code f.place instr
  pub passes : allowed instr ≡ true
  pub makes : effect_of instr f ≡ Some e
