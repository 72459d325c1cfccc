-- The parts of a plan in their order, and what a transfer of an event marks.
use Rattle.std.specs.Prelude.{◌≡◌, ◌≢◌, true, false, List, ◌∷◌, ◌++◌, take, map, Option, Some, None}
use Rattle.so_ids.specs.declared.StateId.{StateId}
use Rattle.so_ids.specs.declared.Plan.{Plan}
use Rattle.so_ids.specs.declared.Chosen.TheVariants.{Transfer}
use Rattle.so_code.specs.declared.instr.Body.TheVariants.{Enter, Exit}
use Rattle.so_code.specs.declared.instr.Instr.{Instr}
use Rattle.so_code.specs.declared.effect.Effect.TheVariants.{SetState}
use Rattle.so_code.specs.declared.effect.FailKind.TheVariants.{TransferLoop}
use Rattle.so_code.specs.declared.frame.Frame.{Frame}
use Rattle.so_code.specs.declared.frame.Todo.TheVariants as todo
use Rattle.so_code.specs.Bodies.{body_at}
use Rattle.so_code.specs.Machine.{Step, goes_on, does, enter_body, landed}
use Rattle.so_code.specs.Answers.{has_transferred, chose}

-- ---- a plan

pub data PlanPart : Type 0 where
  leaves : StateId → PlanPart
  arrives : PlanPart
  enters : StateId → PlanPart

-- the parts of a plan in order: the exits, the entry of its leaf, the enters
abbrev pub plan_parts : Plan → List PlanPart
plan_parts p = map leaves (take p.n_exits p.exits) ++ arrives ∷ map enters (take p.n_enters p.enters)

-- a part is the state's exit or enter body, if it has one, or the effect that enters the leaf; after the last one the
-- switch is over
abbrev pub do_part : List Instr → Option PlanPart → Frame → Step
do_part code (Some (leaves s)) f = enter_body (body_at code (Exit s)) f
do_part code (Some arrives) f = does (SetState f.plan.leaf) f
do_part code (Some (enters s)) f = enter_body (body_at code (Enter s)) f
do_part code None f = goes_on (landed f.back f.opening f)

-- ---- a transfer

-- an event's transfer from one state to another
pub record TransfersOnce (f : Frame) (from to : StateId) : Type 0 where
  pub first : has_transferred f from ≡ false → (chose (Transfer from to) f).todo ≡ todo.Switch to
  pub second : has_transferred f from ≡ true → (chose (Transfer from to) f).todo ≡ todo.Raise TransferLoop
  pub marks : has_transferred (chose (Transfer from to) f) from ≡ true
  pub spares : (s : StateId) → s.0 ≢ from.0 → has_transferred (chose (Transfer from to) f) s ≡ has_transferred f s
