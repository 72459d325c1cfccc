-- The code of an agent that logs what it gets and sends it back, and its first move, which a box gives at once.
use Rattle.std.specs.Prelude.{pos, List, [], ◌∷◌}
use Rattle.so_ids.specs.declared.Target.TheVariants.{Mbox}
use Rattle.so_code.specs.declared.instr.Args.{Args}
use Rattle.so_code.specs.declared.instr.Body.TheVariants.{Start, Finish, Row}
use Rattle.so_code.specs.declared.instr.Operand.TheVariants.{Num, Msg}
use Rattle.so_code.specs.declared.instr.Instr.{Instr}
use Rattle.so_code.specs.declared.instr.Instr.TheVariants as instr
use Rattle.so_code.specs.declared.effect.Effect.{Effect}
use Rattle.so_code.specs.declared.effect.Effect.TheVariants as effect
use Rattle.so_code.specs.declared.effect.Move.{Move}
use Rattle.so_code.specs.declared.effect.Move.TheVariants.{Do}
use Rattle.so_code.specs.declared.frame.Frame.{Frame}
use Rattle.so_code.specs.declared.frame.Todo.TheVariants as todo
use Rattle.so_code.specs.Values.{at}

abbrev pub first_field : Args
first_field = record { list = Msg 0 ∷ Num (pos 0) ∷ Num (pos 0) ∷ Num (pos 0) ∷ []; used = 1 }

abbrev pub echo_code : List Instr
echo_code =
    instr.End Start
    ∷ instr.End Finish
    ∷ instr.Log (record { 0 = 0 }) first_field
    ∷ instr.Send (Mbox (record { 0 = 0 })) (record { 0 = 1 }) first_field
    ∷ instr.End (Row (record { 0 = 0 }))
    ∷ []

abbrev pub echo_line : Frame → Effect
echo_line f = effect.Log (record { 0 = 0 }) (record { fields = at f.msg.fields 0 ∷ pos 0 ∷ pos 0 ∷ pos 0 ∷ []; used = 1 })

-- the row's first move
abbrev pub echoed : Frame → Move × Frame
echoed f = (Do (echo_line f), record f { todo = todo.Wait (echo_line f); place = 2 })
