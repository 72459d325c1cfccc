-- Where an effect comes from: which act of the code made it, or which part of a switch or a receive.
use Rattle.std.specs.Prelude.{◌≡◌, ℕ, ◌<◌, Bool, List}
use Rattle.so_ids.specs.declared.ChainId.{ChainId}
use Rattle.so_ids.specs.declared.CoopId.{CoopId}
use Rattle.so_ids.specs.declared.FilterId.{FilterId}
use Rattle.so_ids.specs.declared.MsgId.{MsgId}
use Rattle.so_ids.specs.declared.RowId.{RowId}
use Rattle.so_ids.specs.declared.StateId.{StateId}
use Rattle.so_ids.specs.declared.Target.{Target}
use Rattle.so_ids.specs.declared.TextId.{TextId}
use Rattle.so_code.specs.declared.instr.Args.{Args}
use Rattle.so_code.specs.declared.instr.Instr.{Instr}
use Rattle.so_code.specs.declared.instr.Instr.TheVariants as instr
use Rattle.so_code.specs.declared.effect.Effect.{Effect}
use Rattle.so_code.specs.declared.effect.Effect.TheVariants as effect
use Rattle.so_code.specs.declared.frame.Frame.{Frame}
use Rattle.so_code.specs.Values.{payload}
use Rattle.so_code.specs.Machine.{plan_left}
use Rattle.so_code.specs.Places.{IsAt, IsReceiveAt}
use Rattle.so_code.specs.Running.{LeadsTo, IsTransfer}

-- the origin of the effect for whose answer the frame waits
pub data Origin (code : List Instr) (e : Effect) (f : Frame) : Type 0 where
  log : (text : TextId) (args : Args) → IsAt code f.place (instr.Log text args) → e ≡ effect.Log text (payload f args) → Origin code e f
  send : (target : Target) (msg : MsgId) (args : Args) → IsAt code f.place (instr.Send target msg args) → e ≡ effect.Send target msg (payload f args) → Origin code e f
  delayed : (target : Target) (msg : MsgId) (ms : ℕ) (args : Args) → IsAt code f.place (instr.Delayed target msg ms args) → e ≡ effect.Delayed target msg (payload f args) ms → Origin code e f
  timer : (slot : ℕ) (target : Target) (msg : MsgId) (ms period : ℕ) (args : Args) → IsAt code f.place (instr.Timer slot target msg ms period args) → e ≡ effect.Timer slot target msg (payload f args) ms period → Origin code e f
  cancel : (slot : ℕ) → IsAt code f.place (instr.Cancel slot) → e ≡ effect.Cancel slot → Origin code e f
  switch : (to : StateId) → IsAt code f.place (instr.Switch to) → e ≡ effect.Switch to → Origin code e f
  subscribe : (row : RowId) → IsAt code f.place (instr.Subscribe row) → e ≡ effect.Subscribe row → Origin code e f
  unsubscribe : (row : RowId) → IsAt code f.place (instr.Unsubscribe row) → e ≡ effect.Unsubscribe row → Origin code e f
  set_filter : (filter : FilterId) → IsAt code f.place (instr.SetFilter filter) → e ≡ effect.SetFilter filter → Origin code e f
  drop_filter : (filter : FilterId) → IsAt code f.place (instr.DropFilter filter) → e ≡ effect.DropFilter filter → Origin code e f
  register : (coop : CoopId) → IsAt code f.place (instr.Register coop) → e ≡ effect.Register coop → Origin code e f
  deregister : (coop : CoopId) → IsAt code f.place (instr.Deregister coop) → e ≡ effect.Deregister coop → Origin code e f
  stop : IsAt code f.place instr.Stop → e ≡ effect.Stop → Origin code e f
  close : (chain : ChainId) (keep : Bool) → IsAt code f.place (instr.Close chain keep) → e ≡ effect.Close chain keep → Origin code e f
  receive : IsReceiveAt code f.place → e ≡ effect.Receive f.place → Origin code e f
  -- the switch that the turn's opening, or the choice after a transfer, asks for
  of_opening : (to : StateId) → LeadsTo f.opening to → e ≡ effect.Switch to → Origin code e f
  -- the entry of a plan's leaf
  of_plan : 0 < plan_left f → e ≡ effect.SetState f.plan.leaf → Origin code e f
  -- the choice after a transfer
  of_transfer : IsTransfer f.opening → e ≡ effect.Choose → Origin code e f
  -- the next message of a receive
  of_receive : IsReceiveAt code f.receive → e ≡ effect.Take f.receive → Origin code e f
