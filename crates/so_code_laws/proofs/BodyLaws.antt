-- A turn begins with the first act of the body that its opening names.
use Rattle.std.proofs.Common.{◌≡◌, ℕ, suc, ◌+◌, Bool, true, false, List, [], ◌∷◌, ◌++◌, length, drop, Some, arith, refl, sym, ap, ◌∙◌, length-append, append_assoc, zero, ◌<◌, Option, subst}
use Rattle.std.specs.Prelude.{replicate, IsSome, slice_index_or, if◌then◌else◌}
use Rattle.std.specs.List.{AllByRecursion}
use Rattle.std.proofs.lemmas.Bool.{eq-eqb}
use Rattle.std.proofs.Math.Seq.{drop-append_seam}
use Rattle.so_code.specs.declared.instr.Body.{Body}
use Rattle.so_code.specs.declared.instr.Body.TheVariants.{Start, Finish, Enter, Exit, Row, Thread}
use Rattle.so_code.specs.declared.instr.Instr.{Instr}
use Rattle.so_code.specs.declared.instr.Instr.TheVariants as instr
use Rattle.so_code.specs.declared.effect.Answer.{Answer}
use Rattle.so_code.specs.declared.effect.Answer.TheVariants.{Okay}
use Rattle.so_code.specs.declared.frame.Frame.{Frame}
use Rattle.so_code.specs.declared.frame.Todo.TheVariants as todo
use Rattle.so_code.specs.Bodies.{same_body, is_end, ends_body, body_from, body_at, bodies_in}
use Rattle.so_code.specs.Receives.{is_receive}
use Rattle.so_code.specs.Valid.{is_act}
use Rattle.so_code.specs.Shape.{Handler, Act, WholeBody, plain, receiving, handlers_code, acts_code, flatten, plain_body, cases_of, AreActsBefore, IsHandler, AreActs, IsWholeBody}
use Rattle.so_code.specs.Machine.{open_step, step_of, after}
use Rattle.so_code.specs.Places.{HasPlaces}
use Rattle.so_code.specs.Running.{IsFrame}
use Rattle.so_code.specs.Openings.{HasBody}
use Rattle.so_code_laws.specs.Turns.{effects_by, is_straight, effects_in, is_log, lines_of, at_place, BeginsWith, first_place}
use Rattle.so_code.proofs.MoveLaws.{after_silent}
use Rattle.so_code.proofs.ShapeLaws.{places-code}
use Rattle.so_code.proofs.BuildLaws.{plain_code}
use Rattle.so_code_laws.proofs.TurnLaws.{in_order, lines_from, lines_same}

-- ---- no End among the acts of a body

abbrev pub HasNoEnd : List Instr → Type 0
HasNoEnd code = AllByRecursion (λ i. is_end i ≡ false) code

none-append : (xs ys : List Instr) → HasNoEnd xs → HasNoEnd ys → HasNoEnd (xs ++ ys)
none-append [] ys a b = b
none-append (x ∷ xs) ys a b = (a.0, none-append xs ys a.1 b)

act_end : (i : Instr) → is_act i ≡ true → is_end i ≡ false
act_end (instr.End body) e = absurd cc
act_end other e = refl

receive_end : (i : Instr) → is_receive i ≡ true → is_end i ≡ false
receive_end (instr.End body) e = absurd cc
receive_end other e = refl

before_none : (switches : Bool) (more : ℕ) (acts : List Instr) → AreActsBefore switches more acts → HasNoEnd acts
before_none switches more [] are = tt
before_none switches more (i ∷ rest) are = (act_end i are.0.act, before_none switches more rest are.1)

handlers_none_end : (cases : ℕ) (hs : List Handler) → AllByRecursion (IsHandler cases) hs → HasNoEnd (handlers_code hs)
handlers_none_end cases [] each = tt
handlers_none_end cases (h ∷ hs) each = (refl, none-append h.acts (instr.Back ∷ handlers_code hs) (before_none false 0 h.acts each.0.acts) (refl, handlers_none_end cases hs each.1))

acts_none_end : (body : Body) (acts : List Act) → AreActs body acts → HasNoEnd (acts_code acts)
acts_none_end body [] are = tt
acts_none_end body (plain i ∷ rest) are = (act_end i are.0.act, acts_none_end body rest are.1)
acts_none_end body (receiving i hs ∷ rest) are =
    (receive_end i are.0.receive, none-append (handlers_code hs) (acts_code rest) (handlers_none_end (cases_of i) hs are.0.each) (acts_none_end body rest are.1))

-- ---- where a body begins

no_end_ends : (body : Body) (i : Instr) → is_end i ≡ false → ends_body body i ≡ false
no_end_ends body (instr.End other) e = absurd cc
no_end_ends body other e = refl

skip_acts : (body : Body) (start place : ℕ) (acts code : List Instr) → HasNoEnd acts → body_from body start place (acts ++ code) ≡ body_from body start (place + length acts) code
skip_acts body start place [] code none = let e : place + 0 ≡ place = omega arith in rw e refl
skip_acts body start place (i ∷ acts) code none =
    let e : place + suc (length acts) ≡ place + 1 + length acts = omega arith in
    rw (e, none.0, no_end_ends body i none.0) (skip_acts body start (place + 1) acts code none.1)

same_self : (body : Body) → same_body body body ≡ true
same_self Start = refl
same_self Finish = refl
same_self Thread = refl
same_self (Enter s) = eq-eqb s.0 s.0 refl
same_self (Exit s) = eq-eqb s.0 s.0 refl
same_self (Row r) = eq-eqb r.0 r.0 refl

-- the body of a part that no earlier part has
found_from : (front : List WholeBody) (p : WholeBody) (rest : List WholeBody) (place : ℕ) → AllByRecursion IsWholeBody front → IsWholeBody p → AllByRecursion (λ (q : WholeBody). same_body q.body p.body ≡ false) front → body_from p.body place place (flatten (front ++ p ∷ rest)) ≡ Some (place + length (flatten front))
found_from [] p rest place each one others =
    let e : place + 0 ≡ place = omega arith in
    skip_acts p.body place place (acts_code p.acts) (instr.End p.body ∷ flatten rest) (acts_none_end p.body p.acts one) ∙ rw (same_self p.body, e) refl
found_from (q ∷ front) p rest place each one others =
    let long : length (acts_code q.acts ++ instr.End q.body ∷ flatten front) ≡ length (acts_code q.acts) + suc (length (flatten front)) = length-append (acts_code q.acts) (instr.End q.body ∷ flatten front) in
    let e : place + length (acts_code q.acts ++ instr.End q.body ∷ flatten front) ≡ place + length (acts_code q.acts) + 1 + length (flatten front) = omega (arith, long) in
    skip_acts p.body place place (acts_code q.acts) (instr.End q.body ∷ flatten (front ++ p ∷ rest)) (acts_none_end q.body q.acts each.0)
    ∙ rw (others.0, e) (found_from front p rest (place + length (acts_code q.acts) + 1) each.1 one others.1)

pub body_found : (front : List WholeBody) (p : WholeBody) (rest : List WholeBody) → AllByRecursion IsWholeBody front → IsWholeBody p → AllByRecursion (λ (q : WholeBody). same_body q.body p.body ≡ false) front → body_at (flatten (front ++ p ∷ rest)) p.body ≡ Some (length (flatten front))
body_found front p rest each one others =
    let e : 0 + length (flatten front) ≡ length (flatten front) = omega arith in
    found_from front p rest 0 each one others ∙ ap Some e

flatten-append : (xs ys : List WholeBody) → flatten (xs ++ ys) ≡ flatten xs ++ flatten ys
flatten-append [] ys = refl
flatten-append (p ∷ xs) ys =
    ap (λ (l : List Instr). acts_code p.acts ++ instr.End p.body ∷ l) (flatten-append xs ys)
    ∙ sym (append_assoc (acts_code p.acts) (instr.End p.body ∷ flatten xs) (flatten ys))

pub body_stands : (front : List WholeBody) (p : WholeBody) (rest : List WholeBody) → drop (length (flatten front)) (flatten (front ++ p ∷ rest)) ≡ acts_code p.acts ++ instr.End p.body ∷ flatten rest
body_stands front p rest =
    ap (λ (l : List Instr). drop (length (flatten front)) l) (flatten-append front (p ∷ rest))
    ∙ drop-append_seam (flatten front) (flatten (p ∷ rest))

-- a body that the code has is found
found_here : (body b : Body) (start k : ℕ) (bodies : List Body) (further : Option ℕ) (t : Bool) → same_body b body ≡ t → k < suc (length bodies) → slice_index_or (b ∷ bodies) k body ≡ body → ((n : ℕ) → n < length bodies → slice_index_or bodies n body ≡ body → IsSome further) → IsSome (if t then Some start else further)
found_here body b start k bodies further true e l is more = refl
found_here body b start zero bodies further false e l is more =
    let same : same_body body body ≡ false = subst (λ (x : Body). same_body x body ≡ false) is e in
    let self : same_body body body ≡ true = same_self body in
    absurd cc
found_here body b start (suc k) bodies further false e l is more = more k (omega arith) is

found_in : (code : List Instr) (body : Body) (start place k : ℕ) → k < length (bodies_in code) → slice_index_or (bodies_in code) k body ≡ body → IsSome (body_from body start place code)
found_in [] body start place k l is = absurd (omega arith)
found_in (instr.End b ∷ code) body start place k l is = found_here body b start k (bodies_in code) (body_from body (place + 1) (place + 1) code) (same_body b body) refl l is (λ n ln isn. found_in code body (place + 1) (place + 1) n ln isn)
found_in (other ∷ code) body start place k l is = found_in code body start (place + 1) k l is

pub has_body_at : (code : List Instr) (body : Body) → HasBody code body → IsSome (body_at code body)
has_body_at code body has = found_in code body 0 0 has.0 has.1 has.2

-- ---- a turn from its beginning

-- a turn that opens a body moves as from the body's first act
pub opens_body : (code : List Instr) (f : Frame) (body : Body) (place : ℕ) → HasPlaces code → IsFrame code f → f.todo ≡ todo.Open body → body_at code body ≡ Some place → after code f ≡ after code (at_place place f)
opens_body code f body place places frame is found =
    after_silent code places f (at_place place f) frame (ap (λ t. step_of t code f) is ∙ ap (λ o. open_step o f) found)

open_effects : (code : List Instr) (f g : Frame) (answers : List Answer) → after code f ≡ after code g → effects_by (after code) answers f ≡ effects_by (after code) answers g
open_effects code f g [] same = refl
open_effects code f g (a ∷ answers) same = rw same refl

-- where the acts of the body that a turn begins with stand
begun_stands : (code acts : List Instr) (f : Frame) (begins : BeginsWith code acts f) → drop (first_place begins) code ≡ acts ++ instr.End begins.body ∷ flatten begins.rest
begun_stands code acts f begins =
    let p : WholeBody = plain_body begins.body acts in
    ap (λ (l : List Instr). drop (length (flatten begins.front)) l) begins.made
    ∙ (body_stands begins.front p begins.rest
    ∙ ap (λ (l : List Instr). l ++ instr.End begins.body ∷ flatten begins.rest) (plain_code acts))

begun_moves : (code acts : List Instr) (f : Frame) (begins : BeginsWith code acts f) → after code f ≡ after code (at_place (first_place begins) f)
begun_moves code acts f begins =
    let p : WholeBody = plain_body begins.body acts in
    let found : body_at code begins.body ≡ Some (length (flatten begins.front)) =
    ap (λ (l : List Instr). body_at l begins.body) begins.made ∙ body_found begins.front p begins.rest begins.each begins.are begins.first in
    opens_body code f begins.body (length (flatten begins.front)) (places-code code begins.is_code) begins.frame begins.opens found

-- a turn that begins with a body without a jump asks for the effects of the body's acts in their order
pub acts_in_order : (code acts : List Instr) (f : Frame) (answers : List Answer) → (begins : BeginsWith code acts f) → AllByRecursion (λ i. is_straight i ≡ true) acts → effects_by (after code) answers f ≡ effects_in acts answers (at_place (first_place begins) f)
acts_in_order code acts f answers begins straight =
    open_effects code f (at_place (first_place begins) f) answers (begun_moves code acts f begins)
    ∙ in_order code begins.body (flatten begins.rest) begins.last answers acts (at_place (first_place begins) f) (refl, begun_stands code acts f begins, straight)

-- and one of log acts writes their lines
pub lines_in_order : (code acts : List Instr) (f : Frame) → BeginsWith code acts f → AllByRecursion (λ i. is_log i ≡ true) acts → effects_by (after code) (replicate (length acts) Okay) f ≡ lines_of f acts
lines_in_order code acts f begins logs =
    open_effects code f (at_place (first_place begins) f) (replicate (length acts) Okay) (begun_moves code acts f begins)
    ∙ (lines_from code begins.body (flatten begins.rest) acts (at_place (first_place begins) f) begins.last refl (begun_stands code acts f begins) logs
    ∙ lines_same acts f todo.Act (first_place begins))
