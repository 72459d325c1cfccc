-- What each agent of a ring is, and that it is an agent of the ring.
use Rattle.std.proofs.Common.{◌≡◌, ℕ, zero, suc, ◌+◌, ◌*◌, ◌==◌, ◌<◌, ◌≤◌, ◌^◌, pos, get_or, List, [], ◌∷◌, ◌++◌, length, map, Bool, true, false, ◌&&◌, Option, Some, None, refl, sym, ap, ◌∙◌, subst, arith, cond, bytes_eq}
use Rattle.std.specs.Prelude.{codes, slice_index_or}
use Rattle.std.specs.Fmt.{decimal}
use Rattle.std.specs.List.{All, AllByRecursion, IsDistinct, list_all}
use Rattle.std.proofs.lemmas.List.Elements.{All-nil, All-cons}
use Rattle.std.proofs.lemmas.Bool.{eqb-false, le-leb, and_from, ltb-true, lt-ltb}
use Rattle.std.proofs.lemmas.Fmt.{decimal_is_IsNumeral, decimal_injective, length-decimal-le}
use Rattle.std.proofs.lemmas.Str.Parse.{digit_at}
use Rattle.std.proofs.lemmas.Slice.Eq.{bytes_eq-Decides}
use Rattle.so_ids.specs.declared.RowId.{RowId}
use Rattle.so_code.specs.declared.instr.Instr.{Instr}
use Rattle.so_code.specs.declared.instr.Operand.TheVariants as operand
use Rattle.so_code.specs.Bodies.{bodies_in}
use Rattle.so_code.specs.Shape.{IsCode, agent_bodies}
use Rattle.so_code_laws.proofs.Checks.{agent_code}
use Rattle.so_lists.specs.Lists.{each_below}
use Rattle.so_lists.proofs.EachBelow.{length-each_below, get_or-each_below}
use Rattle.so_scene.specs.Checked.{NamesParts, IsRow, handlers, IsAgent}
use Rattle.so_scene.specs.Words.{is_name_byte, is_name}
use Rattle.so_scene.specs.Written.{IsWritten, are_short, AreSafe, IsNumber}
use Rattle.so_scene.specs.declared.parts.AgentDef.{AgentDef}
use Rattle.so_ring.specs.Ring.{after, passes, send_token, token_acts, start_acts, rest_in_ring, code_in_ring, token_row, name_in_ring, agent_in_ring, ring_agents, ring}

-- ---- the agents, by number

pub how_many : (count : ℕ) → length (ring_agents count) ≡ count
unfolding ring_agents
how_many count = length-each_below (agent_in_ring count) count

pub agent_there : (count k : ℕ) (d : AgentDef) → k < count → get_or (ring_agents count) k d ≡ agent_in_ring count k
unfolding ring_agents
agent_there count k d l = get_or-each_below (agent_in_ring count) count k d l

pub all_agents : (count : ℕ) → ring_agents count ≡ each_below (agent_in_ring count) count
unfolding ring_agents
all_agents count = refl

after_case : (count k : ℕ) (b : Bool) → (k + 1 == count) ≡ b → k < count → cond b 0 (k + 1) < count
after_case count k true e l = omega (arith, l)
after_case count k false e l = let apart = eqb-false (k + 1) count e in omega (arith, l, apart)

-- the next agent is one of the ring's
pub is_next : (count k : ℕ) → k < count → after count k < count
is_next count k l = after_case count k (k + 1 == count) refl l

-- ---- the code

pub is_code : (count k : ℕ) → IsCode (code_in_ring count k)
is_code count zero = agent_code (code_in_ring count zero) 0 (record { 0 = 0 } ∷ []) refl refl refl refl refl
is_code count (suc k) = agent_code (code_in_ring count (suc k)) 0 (record { 0 = 0 } ∷ []) refl refl refl refl refl

pub has_bodies : (count k : ℕ) → bodies_in (code_in_ring count k) ≡ agent_bodies 0 (handlers (token_row k ∷ []))
has_bodies count zero = refl
has_bodies count (suc k) = refl

pub is_short : (count k : ℕ) → are_short 0 (code_in_ring count k) ≡ true
is_short count zero = refl
is_short count (suc k) = refl

-- ---- the names

digits_named : (ds : List ℕ) → ((i : ℕ) → i < length ds → (48 ≤ get_or ds i 0) × (get_or ds i 0 ≤ 57)) → list_all is_name_byte ds ≡ true
digits_named [] h = refl
digits_named (d ∷ ds) h =
    let first = h 0 (omega arith) in
    let rest = digits_named ds (λ i l. h (suc i) (omega arith)) in
    rw (le-leb 48 d first.0, le-leb d 57 first.1) rest

name_of_digits : (ds : List ℕ) → length ds ≤ 4 → list_all is_name_byte ds ≡ true → is_name (97 ∷ ds) ≡ true
name_of_digits ds few all = rw (le-leb (suc (length ds)) 32 (omega (arith, few)), all) refl

pub is_named : (k : ℕ) → k < 4000 → is_name (name_in_ring k) ≡ true
is_named k l =
    name_of_digits (decimal k) (length-decimal-le 4 k (omega arith) (omega (arith, l)) (omega (arith, l)))
    (digits_named (decimal k) (λ i m. digit_at (decimal k) i (decimal_is_IsNumeral k (omega (arith, l))).0.1 m))

abbrev tail_of : List ℕ → List ℕ
tail_of [] = []
tail_of (b ∷ bs) = bs

apart_case : (i j : ℕ) (b : Bool) → bytes_eq (name_in_ring i) (name_in_ring j) ≡ b → i < j → j < 4000 → b ≡ false
apart_case i j false e l m = refl
apart_case i j true e l m =
    let same : name_in_ring i ≡ name_in_ring j = (bytes_eq-Decides (name_in_ring i) (name_in_ring j)).0 e in
    let digits : decimal i ≡ decimal j = ap tail_of same in
    absurd (omega (arith, l, decimal_injective i j (omega (arith, l, m)) (omega (arith, m)) digits))

pub names_apart : (i j : ℕ) → i < j → j < 4000 → bytes_eq (name_in_ring i) (name_in_ring j) ≡ false
names_apart i j l m = apart_case i j (bytes_eq (name_in_ring i) (name_in_ring j)) refl l m
