-- How a code is made: from its parts, and a list of acts act by act.
use Rattle.std.proofs.Common.{◌≡◌, ℕ, zero, suc, ◌≤◌, Bool, true, false, List, [], ◌∷◌, ◌++◌, length, take, arith, refl, sym, ap, ◌∙◌, subst, length-append, append_assoc}
use Rattle.std.specs.Prelude.{map}
use Rattle.std.specs.List.{AllByRecursion}
use Rattle.so_code.specs.declared.instr.Body.{Body}
use Rattle.so_code.specs.declared.instr.Instr.{Instr}
use Rattle.so_code.specs.declared.instr.Instr.TheVariants as instr
use Rattle.so_code.specs.Bodies.{with_end, bodies_in}
use Rattle.so_code.specs.Receives.{is_receive}
use Rattle.so_code.specs.Valid.{jump, is_act}
use Rattle.so_code.specs.Shape.{Handler, Act, WholeBody, plain, receiving, handlers_code, acts_code, flatten, plain_body, cases_of, IsActBefore, AreActsBefore, IsHandler, PassesOver, may_switch, AreActs, IsWholeBody, AreInOrder, body_of, IsCode}

-- fine parts in order are a code
pub structured : (parts : List WholeBody) → length (flatten parts) ≤ 1024 → AreInOrder (map body_of parts) → AllByRecursion IsWholeBody parts → IsCode (flatten parts)
structured parts few order each = record { made_of = parts; same = refl; few = few; order = order; each = each }

-- ---- acts of one instruction each

pub plain_code : (acts : List Instr) → acts_code (map plain acts) ≡ acts
plain_code [] = refl
plain_code (i ∷ rest) = ap (λ (l : List Instr). i ∷ l) (plain_code rest)

take_plain : (n : ℕ) (acts : List Instr) → n ≤ length acts → length (acts_code (take n (map plain acts))) ≡ n
take_plain zero acts l = refl
take_plain (suc n) [] l = absurd (omega arith)
take_plain (suc n) (i ∷ rest) l = omega (arith, take_plain n rest (omega arith))

length_plain : (acts : List Instr) → length (map plain acts) ≡ length acts
length_plain [] = refl
length_plain (i ∷ rest) = omega (arith, length_plain rest)

-- a jump over so many of them passes over whole acts
pub plain_passes : (count : ℕ) (acts : List Instr) → count ≤ length acts → PassesOver count (map plain acts)
plain_passes count acts l = record {
  acts = count;
  few = omega (arith, l, length_plain acts);
  width = sym (take_plain count acts l);
}

-- one more act at the end: the jumps so far may have passed over it
pub acts_before-add : (switches : Bool) (more : ℕ) (acts : List Instr) (i : Instr) → AreActsBefore switches (suc more) acts → IsActBefore switches i more → AreActsBefore switches more (acts ++ i ∷ [])
acts_before-add switches more [] i are one =
    (record { act = one.act; switch = one.switch; parts = one.parts; jumps = omega (arith, one.jumps) }, tt)
acts_before-add switches more (j ∷ rest) i are one = (
  record { act = are.0.act; switch = are.0.switch; parts = are.0.parts; jumps = omega (arith, are.0.jumps, length-append rest (i ∷ [])) },
  acts_before-add switches more rest i are.1 one,
)

-- acts of one instruction each, after which none follows, are a body's acts
pub plain_acts : (body : Body) (acts : List Instr) → AreActsBefore (may_switch body) 0 acts → AreActs body (map plain acts)
plain_acts body [] are = tt
plain_acts body (i ∷ rest) are = (
  record { act = are.0.act; switch = are.0.switch; parts = are.0.parts; jumps = plain_passes (jump i) rest (omega (arith, are.0.jumps)) },
  plain_acts body rest are.1,
)

pub plain_body_code : (body : Body) (acts : List Instr) (rest : List WholeBody) → flatten (plain_body body acts ∷ rest) ≡ acts ++ instr.End body ∷ flatten rest
plain_body_code body acts rest = ap (λ (l : List Instr). l ++ instr.End body ∷ flatten rest) (plain_code acts)

-- ---- the bodies of a code

act_no_end : (i : Instr) (bodies : List Body) → is_act i ≡ true → with_end i bodies ≡ bodies
act_no_end (instr.End body) bodies e = absurd cc
act_no_end other bodies e = refl

receive_no_end : (i : Instr) (bodies : List Body) → is_receive i ≡ true → with_end i bodies ≡ bodies
receive_no_end (instr.End body) bodies e = absurd cc
receive_no_end other bodies e = refl

bodies_acts : (switches : Bool) (more : ℕ) (acts code : List Instr) → AreActsBefore switches more acts → bodies_in (acts ++ code) ≡ bodies_in code
bodies_acts switches more [] code are = refl
bodies_acts switches more (i ∷ rest) code are = act_no_end i (bodies_in (rest ++ code)) are.0.act ∙ bodies_acts switches more rest code are.1

bodies_handlers : (cases : ℕ) (hs : List Handler) (code : List Instr) → AllByRecursion (IsHandler cases) hs → bodies_in (handlers_code hs ++ code) ≡ bodies_in code
bodies_handlers cases [] code each = refl
bodies_handlers cases (h ∷ hs) code each =
    ap bodies_in (append_assoc h.acts (instr.Back ∷ handlers_code hs) code)
    ∙ (bodies_acts false 0 h.acts (instr.Back ∷ (handlers_code hs ++ code)) each.0.acts ∙ bodies_handlers cases hs code each.1)

bodies_body : (body : Body) (acts : List Act) (code : List Instr) → AreActs body acts → bodies_in (acts_code acts ++ code) ≡ bodies_in code
bodies_body body [] code are = refl
bodies_body body (plain i ∷ rest) code are = act_no_end i (bodies_in (acts_code rest ++ code)) are.0.act ∙ bodies_body body rest code are.1
bodies_body body (receiving i hs ∷ rest) code are =
    receive_no_end i (bodies_in ((handlers_code hs ++ acts_code rest) ++ code)) are.0.receive
    ∙ (ap bodies_in (append_assoc (handlers_code hs) (acts_code rest) code)
    ∙ (bodies_handlers (cases_of i) hs (acts_code rest ++ code) are.0.each ∙ bodies_body body rest code are.1))

-- the bodies that the Ends of a code name are those of its parts
pub bodies_in-flatten : (parts : List WholeBody) → AllByRecursion IsWholeBody parts → bodies_in (flatten parts) ≡ map body_of parts
bodies_in-flatten [] each = refl
bodies_in-flatten (p ∷ rest) each =
    bodies_body p.body p.acts (instr.End p.body ∷ flatten rest) each.0
    ∙ ap (λ (l : List Body). p.body ∷ l) (bodies_in-flatten rest each.1)

-- a code's bodies are in order
pub code_order : (code : List Instr) → IsCode code → AreInOrder (bodies_in code)
code_order code is_code =
    subst (λ (bodies : List Body). AreInOrder bodies)
    (sym (ap bodies_in is_code.same ∙ bodies_in-flatten is_code.made_of is_code.each))
    is_code.order
