-- A ring is a scene.
use Rattle.std.proofs.Common.{◌≡◌, ℕ, zero, suc, ◌+◌, ◌<◌, ◌≤◌, ◌^◌, pos, get_or, List, [], ◌∷◌, ◌++◌, length, map, replicate, Bool, true, false, Option, Some, None, refl, sym, ap, ◌∙◌, subst, arith, bytes_eq}
use Rattle.std.specs.Prelude.{codes, slice_index_or}
use Rattle.std.specs.List.{All, AllByRecursion, IsDistinct, filter_map}
use Rattle.std.proofs.lemmas.Bool.{cases_eq, false≢true, lt-ltb}
use Rattle.std.proofs.lemmas.List.{append-nil}
use Rattle.std.proofs.lemmas.List.Elements.{All-nil, All-replicate, All-from_recursion}
use Rattle.std.proofs.lemmas.Map.Keys.{IsDistinct-cons}
use Rattle.so_ids.specs.declared.AgentId.{AgentId}
use Rattle.so_ids.specs.declared.CoopId.{CoopId}
use Rattle.so_ids.specs.declared.DispId.{DispId}
use Rattle.so_code.specs.declared.instr.Instr.{Instr}
use Rattle.so_code.specs.declared.instr.Operand.{Operand}
use Rattle.so_code.specs.declared.instr.Operand.TheVariants as operand
use Rattle.so_state.specs.Fault.{tree_fault, IsTree}
use Rattle.so_lists.specs.Lists.{each_below, given_after}
use Rattle.so_lists.proofs.EachBelow.{all-each_below}
use Rattle.so_lists.proofs.Distinct.{distinct-each_below}
use Rattle.so_scene.specs.Checked.{Named, NamesParts, NamesWithin, IsDisp, IsQuote, AreGroups, group_in, group_uses, text_uses, texts_to, IsCoop, IsMember, IsRow, HasNoLimit, IsFilter, named_by, IsAgent, IsScene}
use Rattle.so_scene.specs.Lanes.{agent_number, bound_to, lane_list, lanes}
use Rattle.so_scene.specs.Parts.{default_disp, no_message, no_agent, agent_of, coop_of, agent_name, mbox_names, groups_of}
use Rattle.so_scene.specs.Words.{is_name, is_text}
use Rattle.so_scene.specs.Written.{is_state_name, HasParent, IsNumber, IsWritten, IsWrittenOperand, AreOperands, AreSafe}
use Rattle.so_scene.proofs.Positions.{no_names}
use Rattle.so_scene.specs.declared.parts.AgentDef.{AgentDef}
use Rattle.so_scene.specs.declared.parts.SceneParts.{SceneParts}
use Rattle.so_ring.specs.Ring.{after, passes, with_number, send_token, token_acts, start_acts, rest_in_ring, code_in_ring, token_row, name_in_ring, agent_in_ring, token, pool, ring_coop, ring_agents, ring}
use Rattle.so_ring.proofs.RingLaws.{how_many, all_agents, agent_there, is_next, is_code, has_bodies, is_short, is_named, names_apart}

never : {X : Type 0} → false ≡ true → X
never e = absurd (false≢true e)

-- ---- the acts of an agent

-- what they name is there
names_rest : (n : Named) (next : ℕ) → next < n.mboxes → 0 < n.messages → AllByRecursion (NamesWithin n) (rest_in_ring next)
names_rest n next l m = (tt, (tt, (tt, (tt, ((l, m), (tt, (tt, (tt, tt))))))))

names_code : (n : Named) (count k : ℕ) → after count k < n.mboxes → 0 < n.messages → AllByRecursion (NamesWithin n) (code_in_ring count k)
names_code n count zero l m = ((l, m), names_rest n (after count zero) l m)
names_code n count (suc k) l m = names_rest n (after count (suc k)) l m

names_parts : (count k : ℕ) → k < count → All (NamesParts (ring count) (agent_in_ring count k)) (code_in_ring count k)
names_parts count k l =
    let next : after count k < length (ring_agents count) + 0 = omega (arith, how_many count, is_next count k l) in
    All-from_recursion (NamesParts (ring count) (agent_in_ring count k)) (code_in_ring count k)
    (names_code (named_by (ring count) (agent_in_ring count k)) count k next (omega arith))

-- a file can say them
are_operands : (n : Operand) → IsWrittenOperand n → AreOperands (with_number n)
are_operands n is = record { four = refl; padded = (is, (refl, (refl, (refl, tt)))) }

written_rest : (s : SceneParts) (next : ℕ) → s.messages ≡ token ∷ [] → AllByRecursion (IsWritten s) (rest_in_ring next)
written_rest s next e =
    (tt, (tt, ((tt, refl), ((tt, refl), ((are_operands (operand.Temp 0) tt, λ signal. never (sym (ap (λ ms. (slice_index_or ms 0 no_message).signal) e) ∙ signal)), (tt, (tt, (tt, tt))))))))

fits_passes : (count : ℕ) → count ≤ 4000 → IsNumber (pos (passes count))
fits_passes count few = lt-ltb (passes count) (2 ^ 63) (omega (arith, few))

written_code : (count k : ℕ) → count ≤ 4000 → AllByRecursion (IsWritten (ring count)) (code_in_ring count k)
written_code count zero few = ((are_operands (operand.Num (pos (passes count))) (fits_passes count few), never), written_rest (ring count) (after count zero) refl)
written_code count (suc k) few = written_rest (ring count) (after count (suc k)) refl

-- no handler is marked as thread-safe
safe_code : (count k : ℕ) → AreSafe (token_row k ∷ []) (code_in_ring count k)
safe_code count zero = (never, (never, (never, (never, (never, (never, (never, (never, (never, tt)))))))))
safe_code count (suc k) = (never, (never, (never, (never, (never, (never, (never, (never, tt))))))))

-- ---- an agent

flat_tree : IsTree []
unfolding tree_fault
flat_tree = record { few = omega arith; sound = refl }

is_row : (count k : ℕ) → k < count → IsRow (ring count) 0 (token_row k)
is_row count k l = record { mbox = omega (arith, how_many count, l); msg = omega arith; state = omega arith; kind = tt; safe = never }

is_agent : (count k : ℕ) → k < count → count ≤ 4000 → IsAgent (ring count) (agent_in_ring count k)
is_agent count k l few = record {
  named = is_named k (omega (arith, l, few));
  coop = omega arith;
  disp = omega arith;
  group = refl;
  vars = refl;
  numbers = All-replicate IsNumber 16 (pos 0) refl;
  tree = flat_tree;
  no_limits = All-nil HasNoLimit;
  state_names = refl;
  states_named = All-nil (λ name. is_state_name name ≡ true);
  initial = All-nil HasParent;
  each_state_once = no_names;
  few_rows = omega arith;
  rows = All-from_recursion (IsRow (ring count) 0) (token_row k ∷ []) (is_row count k l, tt);
  row_ids = refl;
  rows_named = All-nil (λ name. is_name name ≡ true);
  each_row_id_once = no_names;
  few_filters = omega arith;
  filters = All-nil (IsFilter (ring count));
  filters_named = All-nil (λ name. is_name name ≡ true);
  each_filter_id_once = no_names;
  code = is_code count k;
  bodies = has_bodies count k;
  parts = names_parts count k l;
  written = All-from_recursion (IsWritten (ring count)) (code_in_ring count k) (written_code count k few);
  short = is_short count k;
  safe = safe_code count k;
}

-- what holds of each agent and of none, holds of the agent of any number
at_any : (P : AgentDef → Type 0) (agents : List AgentDef) (i : ℕ) → AllByRecursion P agents → P no_agent → P (get_or agents i no_agent)
at_any P [] i h n = n
at_any P (a ∷ agents) zero h n = h.0
at_any P (a ∷ agents) (suc i) h n = at_any P agents i h.1 n

of_each : (P : AgentDef → Type 0) (count : ℕ) (a : AgentId) → ((k : ℕ) → P (agent_in_ring count k)) → P no_agent → P (agent_of (ring count) a)
of_each P count a h n = at_any P (ring_agents count) a.0 (subst (AllByRecursion P) (sym (all_agents count)) (all-each_below P (agent_in_ring count) count (λ k l. h k))) n

-- ---- groups, lanes and cooperations

abbrev two_none : List (List (List ℕ))
two_none = [] ∷ [] ∷ []

no_groups : (n : ℕ) → slice_index_or two_none n [] ≡ []
no_groups zero = refl
no_groups (suc zero) = refl
no_groups (suc (suc n)) = refl

none_used : (count : ℕ) (agents : List AgentId) → filter_map (group_in (ring count)) agents ≡ []
none_used count [] = refl
none_used count (a ∷ agents) =
    let none : group_in (ring count) a ≡ None = of_each (λ def. def.group ≡ None) count a (λ k. refl) refl in
    rw (none) (none_used count agents)

are_groups : (count : ℕ) (d : DispId) → AreGroups (ring count) d
are_groups count d =
    let none : groups_of (ring count) d ≡ [] = no_groups d.0 in
    record {
      named = subst (All (λ name. is_name name ≡ true)) (sym none) (All-nil (λ name. is_name name ≡ true));
      each_once = subst (IsDistinct bytes_eq) (sym none) no_names;
      numbered = ap (given_after 0) (none_used count (bound_to (ring count) d)) ∙ ap (λ (names : List (List ℕ)). Some (length names)) (sym none);
    }

five_lanes : (count : ℕ) → lanes (ring count) ≡ 5
unfolding lanes lane_list
five_lanes count = refl

is_default : IsDisp default_disp
is_default = record {
  named = refl;
  some_slots = omega arith;
  few_slots = omega arith;
  some_threads = omega arith;
  few_threads = omega arith;
  no_pool = λ e. (refl, refl);
  eight = refl;
  quotes = All-replicate IsQuote 8 20 (omega arith, omega arith);
  no_quotes = λ e. refl;
}

is_pool : IsDisp pool
is_pool = record {
  named = refl;
  some_slots = omega arith;
  few_slots = omega arith;
  some_threads = omega arith;
  few_threads = omega arith;
  no_pool = λ e. never (sym e);
  eight = refl;
  quotes = All-replicate IsQuote 8 20 (omega arith, omega arith);
  no_quotes = λ e. refl;
}

is_member : (count : ℕ) (a : AgentId) → a.0 < length (ring_agents count) → IsMember (coop_of (ring count) (agent_of (ring count) a).coop) a
is_member count a l =
    let coop : (agent_of (ring count) a).coop ≡ record { 0 = 0 } = of_each (λ def. def.coop ≡ record { 0 = 0 }) count a (λ k. refl) refl in
    let within : a.0 < 0 + count = omega (arith, how_many count, l) in
    subst (λ c. IsMember (coop_of (ring count) c) a) (sym coop) (omega arith, within)

-- ---- names and texts

lone_name : (name : List ℕ) → IsDistinct bytes_eq (name ∷ [])
lone_name name = IsDistinct-cons bytes_eq name [] tt no_names

disp_names : IsDistinct bytes_eq (codes "default" ∷ codes "pool" ∷ [])
disp_names = IsDistinct-cons bytes_eq (codes "default") (codes "pool" ∷ []) (refl, tt) (lone_name (codes "pool"))

map_push : {X Y : Type 0} (h : X → Y) (xs : List X) (x : X) → map h (xs ++ x ∷ []) ≡ map h xs ++ h x ∷ []
map_push h [] x = refl
map_push h (y ∷ xs) x = ap (λ l. h y ∷ l) (map_push h xs x)

map_each : {X Y : Type 0} (h : X → Y) (f : ℕ → X) (n : ℕ) → map h (each_below f n) ≡ each_below (λ k. h (f k)) n
unfolding each_below
map_each h f zero = refl
map_each h f (suc n) = map_push h (each_below f n) (f n) ∙ ap (λ l. l ++ h (f n) ∷ []) (map_each h f n)

names_differ : (count : ℕ) → count ≤ 4000 → IsDistinct bytes_eq (mbox_names (ring count))
names_differ count few =
    let all : map agent_name (ring_agents count) ≡ each_below name_in_ring count = ap (map agent_name) (all_agents count) ∙ map_each agent_name (agent_in_ring count) count in
    subst (IsDistinct bytes_eq) (sym (append-nil (map agent_name (ring_agents count)) ∙ all))
    (distinct-each_below bytes_eq name_in_ring count (λ i j l m. names_apart i j l (omega (arith, m, few))))

no_text_in : (count k : ℕ) → text_uses (code_in_ring count k) ≡ []
no_text_in count zero = refl
no_text_in count (suc k) = refl

no_texts : (count n : ℕ) → texts_to (ring count) n ≡ []
no_texts count zero = refl
no_texts count (suc n) =
    let none : text_uses (agent_of (ring count) (agent_number n)).code ≡ [] = of_each (λ def. text_uses def.code ≡ []) count (agent_number n) (no_text_in count) refl in
    rw (none, no_texts count n) refl

-- ---- the ring

pub ring_is_scene : (count : ℕ) → 1 ≤ count → count ≤ 4000 → IsScene (ring count)
ring_is_scene count some few =
    let many = how_many count in
    record {
      few_messages = omega arith;
      messages_named = All-from_recursion (λ name. is_name name ≡ true) (codes "token" ∷ []) (refl, tt);
      message_names = lone_name (codes "token");
      few_mboxes = omega arith;
      mboxes_named = All-nil (λ name. is_name name ≡ true);
      default = refl;
      few_dispatchers = omega arith;
      dispatchers = All-from_recursion IsDisp (default_disp ∷ pool ∷ []) (is_default, (is_pool, tt));
      dispatcher_names = disp_names;
      all_groups = refl;
      groups = λ d l. are_groups count d;
      few_lanes = omega (arith, five_lanes count);
      few_coops = omega arith;
      coops = All-from_recursion (IsCoop (ring count)) (ring_coop count ∷ []) (record { named = refl; parent = tt }, tt);
      coop_names = lone_name (codes "ring");
      consecutive = (refl, omega (arith, many));
      members = is_member count;
      few_agents = omega (arith, many, few);
      agents = λ i d l.
          let within : i < count = omega (arith, many, l) in
          subst (IsAgent (ring count)) (sym (agent_there count i d within)) (is_agent count i within few);
      names = names_differ count few;
      few_texts = omega arith;
      texts = All-nil (λ t. is_text t ≡ true);
      texts_numbered = ap (given_after 0) (no_texts count (length (ring_agents count)));
      each_text_once = no_names;
    }
