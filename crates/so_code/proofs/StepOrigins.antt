-- A step that asks for an effect waits for its answer, and where that effect comes from.
use Rattle.std.proofs.Common.{◌≡◌, ℕ, ◌+◌, ◌-◌, ◌<◌, ℤ, Bool, true, false, List, Option, Some, None, arith, refl, ap, subst}
use Rattle.std.specs.Prelude.{slice_get, nat_eq, nat_lt, if◌then◌else◌, ◌+ℤ◌, ◌-ℤ◌, ◌*ℤ◌}
use Rattle.std.proofs.lemmas.Bool.{eqb-true}
use Rattle.so_ids.specs.declared.Opening.{Opening}
use Rattle.so_ids.specs.declared.Opening.TheVariants as opening
use Rattle.so_ids.specs.declared.Chosen.TheVariants.{Transfer}
use Rattle.so_code.specs.declared.instr.Body.{Body}
use Rattle.so_code.specs.declared.instr.Body.TheVariants.{Start, Finish, Enter, Exit, Row, Thread}
use Rattle.so_code.specs.declared.instr.Dest.{Dest}
use Rattle.so_code.specs.declared.instr.Dest.TheVariants.{Var as ToVar, Temp as ToTemp}
use Rattle.so_code.specs.declared.instr.Instr.{Instr}
use Rattle.so_code.specs.declared.instr.Instr.TheVariants as instr
use Rattle.so_code.specs.declared.effect.Effect.{Effect}
use Rattle.so_code.specs.declared.effect.Effect.TheVariants as effect
use Rattle.so_code.specs.declared.effect.FailKind.{FailKind}
use Rattle.so_code.specs.declared.effect.FailKind.TheVariants.{Overflow, Thrown}
use Rattle.so_code.specs.declared.effect.Move.TheVariants.{Do, Done, Fail}
use Rattle.so_code.specs.declared.frame.Frame.{Frame}
use Rattle.so_code.specs.declared.frame.Todo.{Todo}
use Rattle.so_code.specs.declared.frame.Todo.TheVariants as todo
use Rattle.so_code.specs.Values.{in_range, holds, value, put, payload}
use Rattle.so_code.specs.Bodies.{body_at}
use Rattle.so_code.specs.Receives.{handler_at}
use Rattle.so_code.specs.Machine.{Step, goes_on, does, fails, is_done, next_by, put_if, plan_left, body_ended, act, act_at, open_step, enter_body, handle_step, landed, leave, with_todo, ran_one, state_in, step_of, step}
use Rattle.so_code.specs.Places.{IsAt, IsReceiveAt}
use Rattle.so_code.specs.Running.{IsFrame, IsReady}
use Rattle.so_code.specs.Origins.{Origin}
use Rattle.so_code.specs.Origins as origin

-- what a step of a frame tells
pub record Told (code : List Instr) (before : Frame) (s : Step) : Type 0 where
  pub waits : (e : Effect) → s.0 ≡ Some (Do e) → s.1.todo ≡ todo.Wait e
  pub comes : (e : Effect) → s.0 ≡ Some (Do e) → Origin code e s.1
  pub opening : s.1.opening ≡ before.opening
  pub plan : s.1.plan ≡ before.plan

module _ (code : List Instr) where
  told_goes : (before f : Frame) → f.opening ≡ before.opening → f.plan ≡ before.plan → Told code before (goes_on f)
  told_goes before f opens plans = record {
    waits = λ e m. let wrong : None ≡ Some (Do e) = m in cc;
    comes = λ e m. let wrong : None ≡ Some (Do e) = m in absurd cc;
    opening = opens;
    plan = plans;
  }

  told_does : (before : Frame) (e : Effect) (f : Frame) → f.opening ≡ before.opening → f.plan ≡ before.plan → Origin code e (with_todo (todo.Wait e) f) → Told code before (does e f)
  told_does before e f opens plans from = record {
    waits = λ other m. let asked : Some (Do e) ≡ Some (Do other) = m in let same : e ≡ other = cc in ap todo.Wait same;
    comes = λ other m. let asked : Some (Do e) ≡ Some (Do other) = m in let same : e ≡ other = cc in subst (λ (x : Effect). Origin code x (with_todo (todo.Wait e) f)) same from;
    opening = opens;
    plan = plans;
  }

  told_done : (f : Frame) → Told code f (is_done f)
  told_done f = record {
    waits = λ e m. let wrong : Some Done ≡ Some (Do e) = m in cc;
    comes = λ e m. let wrong : Some Done ≡ Some (Do e) = m in absurd cc;
    opening = refl;
    plan = refl;
  }

  told_fails : (kind : FailKind) (f : Frame) → Told code f (fails kind f)
  told_fails kind f = record {
    waits = λ e m. let wrong : Some (Fail kind) ≡ Some (Do e) = m in cc;
    comes = λ e m. let wrong : Some (Fail kind) ≡ Some (Do e) = m in absurd cc;
    opening = refl;
    plan = refl;
  }

  told_put : (to : Dest) (n : ℤ) (f : Frame) → Told code f (goes_on (next_by 1 (put f to n)))
  told_put (ToVar k) n f = told_goes f (next_by 1 (put f (ToVar k) n)) refl refl
  told_put (ToTemp k) n f = told_goes f (next_by 1 (put f (ToTemp k) n)) refl refl

  told_put_if : (to : Dest) (o : Option ℤ) (f : Frame) → Told code f (put_if to o f)
  told_put_if to None f = told_fails Overflow f
  told_put_if to (Some n) f = told_put to n f

  told_plan : (b : Bool) (f : Frame) → Told code f (if b then goes_on (with_todo todo.Plan (ran_one f)) else is_done f)
  told_plan true f = told_goes f (with_todo todo.Plan (ran_one f)) refl refl
  told_plan false f = told_done f

  told_ended : (body : Body) (f : Frame) → Told code f (body_ended body f)
  told_ended (Enter s) f = told_plan (nat_lt 0 (plan_left f)) f
  told_ended (Exit s) f = told_plan (nat_lt 0 (plan_left f)) f
  told_ended Start f = told_done f
  told_ended Finish f = told_done f
  told_ended (Row r) f = told_done f
  told_ended Thread f = told_done f

  told_act : (i : Instr) (f : Frame) → IsAt code f.place i → Told code f (act i f)
  told_act (instr.Set to a) f here = told_put to (value f a) f
  told_act (instr.Add to a b) f here = told_put_if to (in_range (value f a +ℤ value f b)) f
  told_act (instr.Sub to a b) f here = told_put_if to (in_range (value f a -ℤ value f b)) f
  told_act (instr.Mul to a b) f here = told_put_if to (in_range (value f a *ℤ value f b)) f
  told_act (instr.If a cmp b count) f here = told_goes f (next_by (if holds cmp (value f a) (value f b) then 1 else count + 1) f) refl refl
  told_act (instr.Skip count) f here = told_goes f (next_by (count + 1) f) refl refl
  told_act (instr.Throw a) f here = told_fails (Thrown (value f a)) f
  told_act (instr.Log text args) f here = told_does f (effect.Log text (payload f args)) f refl refl (origin.log text args here refl)
  told_act (instr.Send target msg args) f here = told_does f (effect.Send target msg (payload f args)) f refl refl (origin.send target msg args here refl)
  told_act (instr.Delayed target msg ms args) f here = told_does f (effect.Delayed target msg (payload f args) ms) f refl refl (origin.delayed target msg ms args here refl)
  told_act (instr.Timer slot target msg ms period args) f here = told_does f (effect.Timer slot target msg (payload f args) ms period) f refl refl (origin.timer slot target msg ms period args here refl)
  told_act (instr.Cancel slot) f here = told_does f (effect.Cancel slot) f refl refl (origin.cancel slot here refl)
  told_act (instr.Switch to) f here = told_does f (effect.Switch to) (record f { back = Some (f.place + 1) }) refl refl (origin.switch to here refl)
  told_act (instr.Subscribe row) f here = told_does f (effect.Subscribe row) f refl refl (origin.subscribe row here refl)
  told_act (instr.Unsubscribe row) f here = told_does f (effect.Unsubscribe row) f refl refl (origin.unsubscribe row here refl)
  told_act (instr.SetFilter filter) f here = told_does f (effect.SetFilter filter) f refl refl (origin.set_filter filter here refl)
  told_act (instr.DropFilter filter) f here = told_does f (effect.DropFilter filter) f refl refl (origin.drop_filter filter here refl)
  told_act (instr.Register coop) f here = told_does f (effect.Register coop) f refl refl (origin.register coop here refl)
  told_act (instr.Deregister coop) f here = told_does f (effect.Deregister coop) f refl refl (origin.deregister coop here refl)
  told_act instr.Stop f here = told_does f effect.Stop f refl refl (origin.stop here refl)
  told_act (instr.Close chain keep) f here = told_does f (effect.Close chain keep) f refl refl (origin.close chain keep here refl)
  told_act (instr.Receive chains cases handle_n extract_n empty_timeout total_time no_wait) f here =
      let receives : IsReceiveAt code f.place = record { instr = instr.Receive chains cases handle_n extract_n empty_timeout total_time no_wait; here = here; receives = refl } in
      told_does f (effect.Receive f.place) (record f { receive = f.place; handles_left = handle_n; extracts_left = extract_n; aside = f.msg }) refl refl (origin.receive receives refl)
  told_act (instr.Case case msg) f here = told_goes f (next_by 1 f) refl refl
  told_act instr.Back f here = told_goes f (with_todo todo.Take (record f { handles_left = f.handles_left - 1 })) refl refl
  told_act (instr.End body) f here = told_ended body f

  told_act_at : (o : Option Instr) (f : Frame) → slice_get code f.place ≡ o → Told code f (act_at o f)
  told_act_at None f e = told_done f
  told_act_at (Some i) f e = told_act i f (record { here = e })

  told_open : (o : Option ℕ) (f : Frame) → Told code f (open_step o f)
  told_open None f = told_done f
  told_open (Some place) f = told_goes f (record f { todo = todo.Act; place = place }) refl refl

  told_enter : (o : Option ℕ) (f : Frame) → Told code f (enter_body o f)
  told_enter None f = told_goes f (ran_one f) refl refl
  told_enter (Some place) f = told_goes f (record f { todo = todo.Act; place = place }) refl refl

  told_handle : (o : Option ℕ) (f : Frame) → Told code f (handle_step o f)
  told_handle None f = told_goes f (with_todo todo.Take f) refl refl
  told_handle (Some place) f = told_goes f (record f { todo = todo.Act; place = place }) refl refl

  told_landed : (b : Option ℕ) (o : Opening) (f : Frame) → Told code f (goes_on (landed b o f))
  told_landed (Some place) o f = told_goes f (landed (Some place) o f) refl refl
  told_landed None (opening.Event (Transfer from to)) f = told_goes f (with_todo todo.Choose f) refl refl
  told_landed None (opening.Event other) f = told_goes f (with_todo todo.Over f) refl refl
  told_landed None opening.Start f = told_goes f (with_todo todo.Over f) refl refl
  told_landed None opening.Finish f = told_goes f (with_todo todo.Over f) refl refl
  told_landed None opening.Thread f = told_goes f (with_todo todo.Over f) refl refl
  told_landed None (opening.Time to) f = told_goes f (with_todo todo.Over f) refl refl

  module _ (f : Frame) where
    told_plan_step : (a b c : Bool) → nat_eq f.ran f.plan.n_exits ≡ b → Told code f (if a then enter_body (body_at code (Exit (state_in f.plan.exits f.ran))) f else (if b then does (effect.SetState f.plan.leaf) f else (if c then enter_body (body_at code (Enter (state_in f.plan.enters (f.ran - f.plan.n_exits - 1)))) f else goes_on (landed f.back f.opening f))))
    told_plan_step true b c e = told_enter (body_at code (Exit (state_in f.plan.exits f.ran))) f
    told_plan_step false true c e =
        let h : f.ran ≡ f.plan.n_exits = eqb-true f.ran f.plan.n_exits e in
        let left : 0 < plan_left f = omega arith in
        told_does f (effect.SetState f.plan.leaf) f refl refl (origin.of_plan left refl)
    told_plan_step false false true e = told_enter (body_at code (Enter (state_in f.plan.enters (f.ran - f.plan.n_exits - 1)))) f
    told_plan_step false false false e = told_landed f.back f.opening f

    told_take : (a b : Bool) → IsReceiveAt code f.receive → Told code f (if a then goes_on (leave 1 code f) else (if b then goes_on (leave 2 code f) else does (effect.Take f.receive) f))
    told_take true b here = told_goes f (leave 1 code f) refl refl
    told_take false true here = told_goes f (leave 2 code f) refl refl
    told_take false false here = told_does f (effect.Take f.receive) f refl refl (origin.of_receive here refl)

    told_step_of : (t : Todo) → IsReady t code f → Told code f (step_of t code f)
    told_step_of todo.Act ready = told_act_at (slice_get code f.place) f refl
    told_step_of (todo.Open body) ready = told_open (body_at code body) f
    told_step_of (todo.Switch to) ready = told_does f (effect.Switch to) f refl refl (origin.of_opening to ready refl)
    told_step_of todo.Choose ready = told_does f effect.Choose f refl refl (origin.of_transfer ready refl)
    told_step_of todo.Plan ready = told_plan_step (nat_lt f.ran f.plan.n_exits) (nat_eq f.ran f.plan.n_exits) (nat_lt (f.ran - f.plan.n_exits - 1) f.plan.n_enters) refl
    told_step_of todo.Take ready = told_take (nat_eq f.handles_left 0) (nat_eq f.extracts_left 0) ready
    told_step_of (todo.Handle case msg) ready = told_handle (handler_at code f.receive case msg) f
    told_step_of (todo.Past ans) ready = told_goes f (leave ans code f) refl refl
    told_step_of (todo.Raise kind) ready = told_fails kind f
    told_step_of todo.Over ready = told_done f
    told_step_of (todo.Wait e) ready = told_done f

    pub step_told : IsFrame code f → Told code f (step code f)
    step_told frame = told_step_of f.todo frame.ready
