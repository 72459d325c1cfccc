-- What a turn does, told by its acts alone: no places, no look-ups and no count of steps.
use Rattle.std.specs.Prelude.{◌≡◌, ℕ, Bool, true, false, List, [], ◌∷◌, ◌++◌, length, drop, Some, None, if◌then◌else◌}
use Rattle.std.specs.List.{AllByRecursion}
use Rattle.so_code.specs.declared.instr.Body.{Body}
use Rattle.so_code.specs.declared.instr.Body.TheVariants.{Enter, Exit}
use Rattle.so_code.specs.declared.instr.Cmp.{Cmp}
use Rattle.so_code.specs.declared.instr.Operand.{Operand}
use Rattle.so_code.specs.declared.instr.Instr.{Instr}
use Rattle.so_code.specs.declared.instr.Instr.TheVariants as instr
use Rattle.so_code.specs.declared.effect.Effect.{Effect}
use Rattle.so_code.specs.declared.effect.Effect.TheVariants.{Log as LogEffect}
use Rattle.so_code.specs.declared.effect.Answer.{Answer}
use Rattle.so_code.specs.declared.effect.Move.{Move}
use Rattle.so_code.specs.declared.effect.Move.TheVariants.{Do}
use Rattle.so_code.specs.declared.frame.Frame.{Frame}
use Rattle.so_code.specs.declared.frame.Todo.{Todo}
use Rattle.so_code.specs.declared.frame.Todo.TheVariants as todo
use Rattle.so_code.specs.Values.{payload}
use Rattle.so_code.specs.Bodies.{same_body}
use Rattle.so_code.specs.Shape.{WholeBody, plain_body, flatten, IsWholeBody, IsCode}
use Rattle.so_code.specs.Machine.{Step, act, after}
use Rattle.so_code.specs.Answers.{answered}
use Rattle.so_code.specs.Running.{IsFrame}

-- ---- the effects of a turn

abbrev pub with_effect : Move × Frame → (Frame → List Effect) → List Effect
with_effect (Do e, f) more = e ∷ more f
with_effect (other, f) more = []

-- those that get these answers, where `move` gives a frame's next move
abbrev pub effects_by : (Frame → Move × Frame) → List Answer → Frame → List Effect
effects_by move [] f = []
effects_by move (a ∷ answers) f = with_effect (move f) (λ g. effects_by move answers (answered a g))

-- ---- the effects of a list of acts, one after the other

-- an act that leads to the next one, or to an exception: no jump, and no part of a switch or a receive
abbrev pub is_straight : Instr → Bool
is_straight (instr.If a cmp b count) = false
is_straight (instr.Skip count) = false
is_straight (instr.Switch to) = false
is_straight (instr.Receive chains cases handle_n extract_n empty_timeout total_time no_wait) = false
is_straight (instr.Case case msg) = false
is_straight instr.Back = false
is_straight (instr.End body) = false
is_straight other = true

-- the turn is over after the body: it is no exit or enter body
abbrev pub ends_turn : Body → Bool
ends_turn (Enter s) = false
ends_turn (Exit s) = false
ends_turn other = true

-- no exception was raised
abbrev pub is_acting : Todo → Bool
is_acting todo.Act = true
is_acting other = false

-- the act's effect, if it has one, and what the further acts do with its answer
abbrev pub and_further : (List Answer → Frame → List Effect) → List Answer → Step → List Effect
and_further further answers (None, f) = further answers f
and_further further (a ∷ answers) (Some (Do e), f) = e ∷ (if is_acting (answered a f).todo then further answers (answered a f) else [])
and_further further answers (other, f) = []

abbrev pub effects_in : List Instr → List Answer → Frame → List Effect
effects_in [] answers f = []
effects_in (i ∷ acts) answers f = and_further (effects_in acts) answers (act i f)

-- ---- a body of lines

abbrev pub is_log : Instr → Bool
is_log (instr.Log text args) = true
is_log other = false

-- the line that a log act writes, if this is one, with the values of the frame
abbrev pub and_line : Frame → Instr → List Effect → List Effect
and_line f (instr.Log text args) lines = LogEffect text (payload f args) ∷ lines
and_line f other lines = lines

abbrev pub lines_of : Frame → List Instr → List Effect
lines_of f [] = []
lines_of f (i ∷ acts) = and_line f i (lines_of f acts)

-- ---- a turn that begins with a body

-- the frame at the instruction at this place
abbrev pub at_place : ℕ → Frame → Frame
at_place place f = record f { todo = todo.Act; place = place }

-- the turn begins with these acts, the whole body of one part of its code
pub record BeginsWith (code : List Instr) (acts : List Instr) (f : Frame) : Type 0 where
  pub front : List WholeBody
  pub body : Body
  pub rest : List WholeBody
  pub made : code ≡ flatten (front ++ plain_body body acts ∷ rest)
  pub is_code : IsCode code
  pub each : AllByRecursion IsWholeBody front
  pub are : IsWholeBody (plain_body body acts)
  pub first : AllByRecursion (λ (p : WholeBody). same_body p.body body ≡ false) front
  pub last : ends_turn body ≡ true
  pub frame : IsFrame code f
  pub opens : f.todo ≡ todo.Open body

-- the place of the first of them
abbrev pub first_place : {code acts : List Instr} {f : Frame} → BeginsWith code acts f → ℕ
first_place begins = length (flatten begins.front)

-- ---- a conditional

-- an `if` at the frame's place, that passes over these acts, and what follows them
pub record IsIf (code : List Instr) (f : Frame) (a : Operand) (cmp : Cmp) (b : Operand) (passed rest : List Instr) : Type 0 where
  pub acts : f.todo ≡ todo.Act
  pub here : drop f.place code ≡ instr.If a cmp b (length passed) ∷ (passed ++ rest)

-- the turn goes on as from a place, from which these instructions follow
pub record GoesOnWith (code : List Instr) (f : Frame) (place : ℕ) (follow : List Instr) : Type 0 where
  pub moves : after code f ≡ after code (at_place place f)
  pub follows : drop place code ≡ follow
