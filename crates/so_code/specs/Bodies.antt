-- Where the bodies of a code stand: one after the other, each closed by the End that names it.
use Rattle.std.specs.Prelude.{ℕ, ◌+◌, Bool, true, false, List, [], ◌∷◌, Option, Some, None, nat_eq, if◌then◌else◌}
use Rattle.so_code.specs.declared.instr.Body.{Body}
use Rattle.so_code.specs.declared.instr.Body.TheVariants.{Start, Finish, Enter, Exit, Row, Thread}
use Rattle.so_code.specs.declared.instr.Instr.{Instr}
use Rattle.so_code.specs.declared.instr.Instr.TheVariants.{End}

abbrev pub same_body : Body → Body → Bool
same_body Start Start = true
same_body Finish Finish = true
same_body Thread Thread = true
same_body (Enter a) (Enter b) = nat_eq a.0 b.0
same_body (Exit a) (Exit b) = nat_eq a.0 b.0
same_body (Row a) (Row b) = nat_eq a.0 b.0
same_body a b = false

abbrev pub is_end : Instr → Bool
is_end (End body) = true
is_end other = false

abbrev pub ends_body : Body → Instr → Bool
ends_body body (End other) = same_body other body
ends_body body other = false

-- where a body begins: after the End before it. The code that is left begins at `place`, and the body there at `start`
abbrev pub body_from : Body → ℕ → ℕ → List Instr → Option ℕ
body_from body start place [] = None
body_from body start place (i ∷ code) =
    if ends_body body i then Some start else body_from body (if is_end i then place + 1 else start) (place + 1) code

abbrev pub body_at : List Instr → Body → Option ℕ
body_at code body = body_from body 0 0 code

-- the bodies of a code, in order
abbrev pub with_end : Instr → List Body → List Body
with_end (End body) bodies = body ∷ bodies
with_end other bodies = bodies

abbrev pub bodies_in : List Instr → List Body
bodies_in [] = []
bodies_in (i ∷ code) = with_end i (bodies_in code)
