-- The first move of the box that echoes is that of its code.
use Rattle.std.proofs.Common.{◌≡◌, ℕ, suc, Some, ap}
use Rattle.std.specs.Prelude.{unwrap_or}
use Rattle.so_code.specs.declared.instr.Body.TheVariants.{Row}
use Rattle.so_code.specs.declared.effect.Move.{Move}
use Rattle.so_code.specs.declared.effect.Move.TheVariants.{Done}
use Rattle.so_code.specs.declared.frame.Frame.{Frame}
use Rattle.so_code.specs.declared.frame.Todo.TheVariants as todo
use Rattle.so_code.specs.Machine.{with_todo, go_on, step_of, first_move, after}
use Rattle.so_code.specs.Shape.{IsCode}
use Rattle.so_code.specs.Running.{IsFrame}
use Rattle.so_twins.specs.Echo.{echo_code, echoed}
use Rattle.so_code.proofs.ShapeLaws.{places-code}
use Rattle.so_code.proofs.MoveLaws.{after_frame}

echo_within : (n : ℕ) (f : Frame) → f.todo ≡ todo.Open (Row (record { 0 = 0 })) → first_move (suc (suc n)) echo_code f ≡ Some (echoed f)
echo_within n f e = ap (λ t. go_on (first_move (suc n) echo_code) (step_of t echo_code f)) e

pub echo_row : (f : Frame) → f.todo ≡ todo.Open (Row (record { 0 = 0 })) → after echo_code f ≡ echoed f
unfolding after
echo_row f e = ap (λ o. unwrap_or o (Done, with_todo todo.Over f)) (echo_within 440 f e)

pub echo_frame : (f g : Frame) (move : Move) → IsCode echo_code → IsFrame echo_code f → (move, g) ≡ after echo_code f → IsFrame echo_code g
echo_frame f g move is_code frame e = rw (ap (λ (p : Move × Frame). p.1) e) (after_frame echo_code (places-code echo_code is_code) f frame)

pub ruleset rows = (echo_row, echo_frame)
