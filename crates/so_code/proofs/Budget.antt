-- What is left of a turn before its next move.
use Rattle.std.proofs.Common.{ℕ, ◌+◌, ◌-◌, ◌*◌, List, length}
use Rattle.so_code.specs.declared.instr.Instr.{Instr}
use Rattle.so_code.specs.declared.frame.Frame.{Frame}
use Rattle.so_code.specs.declared.frame.Todo.{Todo}
use Rattle.so_code.specs.declared.frame.Todo.TheVariants as todo
use Rattle.so_code.specs.Receives.{past}
use Rattle.so_code.specs.Machine.{plan_left}

-- the parts of the plan, each longer than the code twice
abbrev pub base : List Instr → Frame → ℕ
base code f = plan_left f * (2 * length code + 3)

abbrev pub budget_of : Todo → List Instr → Frame → ℕ
budget_of todo.Act code f = base code f + 2 * (length code - f.place)
budget_of (todo.Open body) code f = base code f + (2 * length code + 2)
budget_of todo.Plan code f = base code f + (2 * length code + 2)
budget_of todo.Take code f = base code f + (2 * (length code - past code f.receive) + 1)
budget_of (todo.Handle case msg) code f = base code f + 2 * (length code - f.receive)
budget_of (todo.Past ans) code f = base code f + 2 * (length code - f.receive)
budget_of other code f = base code f

abbrev pub budget : List Instr → Frame → ℕ
budget code f = budget_of f.todo code f
