-- What an agent's states, filters and rows keep.
use Rattle.std.proofs.Common.{◌≡◌, ℕ, ◌+◌, ◌<◌, ◌≤◌, suc, zero, List, [], ◌∷◌, ◌++◌, length, get_or, map, true, if◌then◌else◌, Option, Some, None, refl, sym, ap, ◌∙◌, subst, arith, slice_get}
use Rattle.std.specs.List.{AllByRecursion}
use Rattle.std.proofs.lemmas.Bool.{true≢false}
use Rattle.so_ids.specs.declared.RowId.{RowId}
use Rattle.so_ids.specs.declared.StateId.{StateId}
use Rattle.so_code.specs.declared.instr.Body.{Body}
use Rattle.so_code.specs.declared.instr.Body.TheVariants as body
use Rattle.so_code.specs.declared.instr.Instr.{Instr}
use Rattle.so_code.specs.Shape.{state_bodies}
use Rattle.so_state.specs.declared.choice.Row.{Row}
use Rattle.so_state.specs.declared.choice.RowKind.{RowKind}
use Rattle.so_state.specs.declared.choice.RowKind.TheVariants.{Run, Switch, Transfer, Suppress, Dead}
use Rattle.so_state.specs.declared.states.State.{State}
use Rattle.so_state.specs.Fault.{IsTree}
use Rattle.so_state.specs.States.{parent_of}
use Rattle.so_state.proofs.TreeFacts.{parent_declared}
use Rattle.so_scene.specs.declared.parts.AgentDef.{AgentDef}
use Rattle.so_scene.specs.declared.parts.FilterDef.{FilterDef}
use Rattle.so_scene.specs.declared.parts.SceneParts.{SceneParts}
use Rattle.so_scene.specs.Checked.{has_handler, handlers, handlers_from, row_number, given, filter_id, IsFilter, IsRow, HasNoLimit}
use Rattle.so_scene_fields.specs.declared.act_table.Allowed.{Allowed}
use Rattle.so_scene_fields.specs.declared.act_table.Allowed.TheVariants.{AnyAct}
use Rattle.so_scene_data.specs.Sources.{acts_in, behind, states_in, behind_states, behind_row, rows_in, states_of, rows_of}
use Rattle.so_scene.specs.Written.{HasParent}
use Rattle.so_scene_data.proofs.Writable.{IsName, IsStateName, FitsValue}
use Rattle.so_scene_data.proofs.Named.{each_of}
use Rattle.so_scene_data.proofs.ActLaws.{Told}
use Rattle.so_scene_data.proofs.BodyLaws.{IsLaid, AreLaid, AreFrom, agent_laid, allowed_in, handler_of, from_next, from_start, here_first, row_allowed}
use Rattle.so_scene_again.proofs.ObjectLaws.{IsBody, IsId, IsWithin, IsStateOf, IsRowOf, IsFilterOf}

pub body_of : (s : SceneParts) (a : AgentDef) (b : Body) (code : List Instr) → IsLaid s a b code → IsBody s a (allowed_in a b) (acts_in code)
body_of s a b code h = record { told = h.acts; few = h.few }

-- ---- parents

get_slice : {X : Type 0} (xs : List X) (i : ℕ) (d : X) → i < length xs → slice_get xs i ≡ Some (get_or xs i d)
get_slice [] i d l = absurd (omega arith)
get_slice (x ∷ xs) zero d l = refl
get_slice (x ∷ xs) (suc i) d l = get_slice xs i d (omega arith)

within_at : (n : ℕ) (o : Option StateId) → ((p : StateId) → o ≡ Some p → (0 < p.0) × (p.0 ≤ n)) → IsWithin n o
within_at n None f = tt
within_at n (Some p) f = f p refl

parent_at : (states : List State) (i : ℕ) (d : State) → i < length states → parent_of states (record { 0 = suc i }) ≡ (get_or states i d).parent
parent_at states i d l = rw (get_slice states i d l)

pub HasKnownParent : ℕ → State → Type 0
HasKnownParent n x = IsWithin n x.parent

parents : (states : List State) → IsTree states → AllByRecursion (HasKnownParent (length states)) states
unfolding HasKnownParent
parents states h =
    each_of (HasKnownParent (length states)) states
    (λ i d l. within_at (length states) (get_or states i d).parent (λ p e. parent_declared states (record { 0 = suc i }) p h (parent_at states i d l ∙ e)))

-- ---- states

states_facts : (s : SceneParts) (a : AgentDef) (k : ℕ) (ns : List (List ℕ)) (states : List State) (left : List Instr) (bodies : List Body) → length ns ≡ length states
    → AllByRecursion IsStateName ns → AllByRecursion HasParent states → AllByRecursion (HasKnownParent (length a.tree)) states → AllByRecursion HasNoLimit states
    → AreLaid s a (state_bodies (length states) k ++ bodies) left → AllByRecursion (IsStateOf s a) (states_in ns states left)
unfolding states_in HasKnownParent
states_facts s a k [] states left bodies e h i p l t = tt
states_facts s a k (n ∷ ns) [] left bodies e h i p l t = tt
states_facts s a k (n ∷ ns) (x ∷ states) left bodies e h i p l t = (
  record {
    name = h.0;
    initial = i.0;
    parent = p.0;
    limit = l.0;
    enter = body_of s a (body.Enter (record { 0 = k })) left t.0;
    exit = body_of s a (body.Exit (record { 0 = k })) (behind left) t.1.0;
  },
  states_facts s a (k + 1) ns states (behind (behind left)) bodies (omega arith) h.1 i.1 p.1 l.1 t.1.1,
)

states_left : (s : SceneParts) (a : AgentDef) (k : ℕ) (n : ℕ) (left : List Instr) (bodies : List Body) → AreLaid s a (state_bodies n k ++ bodies) left → AreLaid s a bodies (behind_states n left)
unfolding behind_states
states_left s a k zero left bodies t = t
states_left s a k (suc n) left bodies t = states_left s a (k + 1) n (behind (behind left)) bodies t.1.1

pub agent_states : (s : SceneParts) (a : AgentDef) → Told s a → AllByRecursion (IsStateOf s a) (states_of a)
agent_states s a c =
    states_facts s a 1 a.state_names a.tree (behind (behind a.code)) (map body.Row (handlers a.rows)) c.agent.state_names c.written.state_names c.written.states (parents a.tree c.agent.tree) (each_of HasNoLimit a.tree c.agent.no_limits) (agent_laid s a c).1.1

-- ---- rows

row_acts : (s : SceneParts) (a : AgentDef) (i : ℕ) (kind : RowKind) (left : List Instr) (more : List RowId) → AreLaid s a (map body.Row (if has_handler kind then row_number i ∷ more else more)) left
    → (has_handler kind ≡ true → IsBody s a (allowed_in a (body.Row (record { 0 = i }))) (if has_handler kind then acts_in left else [])) × AreLaid s a (map body.Row more) (if has_handler kind then behind left else left)
row_acts s a i Run left more t = ((λ e. body_of s a (body.Row (record { 0 = i })) left t.0), t.1)
row_acts s a i Dead left more t = ((λ e. body_of s a (body.Row (record { 0 = i })) left t.0), t.1)
row_acts s a i (Switch to) left more t = ((λ e. absurd (true≢false (sym e))), t)
row_acts s a i (Transfer to) left more t = ((λ e. absurd (true≢false (sym e))), t)
row_acts s a i Suppress left more t = ((λ e. absurd (true≢false (sym e))), t)

first_id : (id : Option (List ℕ)) (ids : List (Option (List ℕ))) → AllByRecursion IsName (given (id ∷ ids)) → IsId id × AllByRecursion IsName (given ids)
first_id None ids h = (tt, h)
first_id (Some id) ids h = h

rows_facts : (s : SceneParts) (a : AgentDef) (i : ℕ) (ids : List (Option (List ℕ))) (rows : List Row) (left : List Instr) → AllByRecursion IsName (given ids) → AllByRecursion (IsRow s (length a.tree)) rows
    → AreFrom i rows a.rows → AreLaid s a (map body.Row (handlers_from i rows)) left → AllByRecursion (IsRowOf s a) (rows_in ids rows left)
unfolding rows_in
rows_facts s a i [] rows left h r from t = tt
rows_facts s a i (id ∷ ids) [] left h r from t = tt
rows_facts s a i (id ∷ ids) (x ∷ rows) left h r from t =
    let q = row_acts s a i x.kind left (handlers_from (suc i) rows) t in
    let j = first_id id ids h in
    let allowed : allowed_in a (body.Row (record { 0 = i })) ≡ handler_of x.safe = row_allowed a i x (here_first i x rows a.rows from) in
    let acts : List Instr = if has_handler x.kind then acts_in left else [] in (
      record { row = r.0; id = j.0; acts = λ e. subst (λ (q : Allowed). IsBody s a q acts) allowed (q.0 e) },
      rows_facts s a (suc i) ids rows (behind_row x left) j.1 r.1 (from_next i x rows a.rows from) q.1,
    )

pub agent_rows : (s : SceneParts) (a : AgentDef) → Told s a → AllByRecursion (IsRowOf s a) (rows_of a)
agent_rows s a c =
    rows_facts s a 0 a.row_ids a.rows (behind_states (length a.tree) (behind (behind a.code))) c.written.row_ids (each_of (IsRow s (length a.tree)) a.rows c.agent.rows) (from_start a.rows)
    (states_left s a 1 (length a.tree) (behind (behind a.code)) (map body.Row (handlers a.rows)) (agent_laid s a c).1.1)

-- ---- filters

filters_facts : (s : SceneParts) (fs : List FilterDef) → AllByRecursion (IsFilter s) fs → AllByRecursion FitsValue fs → AllByRecursion IsName (given (map filter_id fs)) → AllByRecursion (IsFilterOf s) fs
filters_facts s [] h v i = tt
filters_facts s (f ∷ fs) h v i = let j = first_id f.id (map filter_id fs) i in (record { filter = h.0; id = j.0; value = v.0 }, filters_facts s fs h.1 v.1 j.1)

pub agent_filters : (s : SceneParts) (a : AgentDef) → Told s a → AllByRecursion (IsFilterOf s) a.filters
agent_filters s a c = filters_facts s a.filters (each_of (IsFilter s) a.filters c.agent.filters) c.written.values c.written.filter_ids

-- ---- the start and finish handlers

pub agent_start : (s : SceneParts) (a : AgentDef) → Told s a → IsBody s a AnyAct (acts_in a.code)
agent_start s a c = body_of s a body.Start a.code (agent_laid s a c).0

pub agent_finish : (s : SceneParts) (a : AgentDef) → Told s a → IsBody s a AnyAct (acts_in (behind a.code))
agent_finish s a c = body_of s a body.Finish (behind a.code) (agent_laid s a c).1.0

-- ---- the parts that are kept apart

pub states_named : (ns : List (List ℕ)) (states : List State) (left : List Instr) → length ns ≡ length states → map (λ x. x.name) (states_in ns states left) ≡ ns
unfolding states_in
states_named [] [] left e = refl
states_named [] (x ∷ states) left e = absurd (omega arith)
states_named (n ∷ ns) [] left e = absurd (omega arith)
states_named (n ∷ ns) (x ∷ states) left e = ap (λ (l : List (List ℕ)). n ∷ l) (states_named ns states (behind (behind left)) (omega arith))

pub states_stated : (ns : List (List ℕ)) (states : List State) (left : List Instr) → length ns ≡ length states → map (λ x. x.state) (states_in ns states left) ≡ states
unfolding states_in
states_stated [] [] left e = refl
states_stated [] (x ∷ states) left e = absurd (omega arith)
states_stated (n ∷ ns) [] left e = absurd (omega arith)
states_stated (n ∷ ns) (x ∷ states) left e = ap (λ (l : List State). x ∷ l) (states_stated ns states (behind (behind left)) (omega arith))

pub rows_ids : (ids : List (Option (List ℕ))) (rows : List Row) (left : List Instr) → length ids ≡ length rows → map (λ x. x.id) (rows_in ids rows left) ≡ ids
unfolding rows_in
rows_ids [] [] left e = refl
rows_ids [] (x ∷ rows) left e = absurd (omega arith)
rows_ids (id ∷ ids) [] left e = absurd (omega arith)
rows_ids (id ∷ ids) (x ∷ rows) left e = ap (λ (l : List (Option (List ℕ))). id ∷ l) (rows_ids ids rows (behind_row x left) (omega arith))

pub rows_rows : (ids : List (Option (List ℕ))) (rows : List Row) (left : List Instr) → length ids ≡ length rows → map (λ x. x.row) (rows_in ids rows left) ≡ rows
unfolding rows_in
rows_rows [] [] left e = refl
rows_rows [] (x ∷ rows) left e = absurd (omega arith)
rows_rows (id ∷ ids) [] left e = absurd (omega arith)
rows_rows (id ∷ ids) (x ∷ rows) left e = ap (λ (l : List Row). x ∷ l) (rows_rows ids rows (behind_row x left) (omega arith))

pub states_len : (ns : List (List ℕ)) (states : List State) (left : List Instr) → length ns ≡ length states → length (states_in ns states left) ≡ length states
unfolding states_in
states_len [] [] left e = refl
states_len [] (x ∷ states) left e = absurd (omega arith)
states_len (n ∷ ns) [] left e = absurd (omega arith)
states_len (n ∷ ns) (x ∷ states) left e = ap suc (states_len ns states (behind (behind left)) (omega arith))

pub rows_len : (ids : List (Option (List ℕ))) (rows : List Row) (left : List Instr) → length ids ≡ length rows → length (rows_in ids rows left) ≡ length rows
unfolding rows_in
rows_len [] [] left e = refl
rows_len [] (x ∷ rows) left e = absurd (omega arith)
rows_len (id ∷ ids) [] left e = absurd (omega arith)
rows_len (id ∷ ids) (x ∷ rows) left e = ap suc (rows_len ids rows (behind_row x left) (omega arith))
