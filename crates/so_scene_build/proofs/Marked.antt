-- The handlers of rows that are marked as safe hold no act that changes what an agent keeps.
use Rattle.std.proofs.Common.{◌≡◌, ℕ, suc, ◌+◌, ◌≤◌, List, [], ◌∷◌, ◌++◌, map, Bool, true, false, Option, Some, None, refl, sym, ap, ◌∙◌, subst, arith, codes, append-nil, append_assoc, if◌then◌else◌}
use Rattle.std.proofs.lemmas.Bool.{true≢false}
use Rattle.std.proofs.lemmas.Option.{slice_get-map}
use Rattle.std.specs.Prelude.{slice_get}
use Rattle.std.specs.List.{AllByRecursion}
use Rattle.std.specs.Option.{option_map}
use Rattle.serde_json.specs.Data.{Data, Items, no_items, item}
use Rattle.serde_json.specs.Events.{items_len}
use Rattle.serde_json.specs.Find.{get}
use Rattle.so_code.specs.declared.instr.Body.{Body}
use Rattle.so_code.specs.declared.instr.Body.TheVariants as body
use Rattle.so_code.specs.declared.instr.Instr.{Instr}
use Rattle.so_code.specs.declared.instr.Instr.TheVariants as instr
use Rattle.so_code.specs.Shape.{AreActsBefore}
use Rattle.so_code.specs.Valid.{is_act}
use Rattle.so_state.specs.declared.choice.Row.{Row}
use Rattle.so_scene.specs.Written.{may_be_safe, is_safe_row, is_marked, is_marked_next, AreSafe}
use Rattle.so_scene_fields.specs.declared.act_table.Allowed.{Allowed}
use Rattle.so_scene_fields.specs.declared.act_table.Allowed.TheVariants.{AnyAct, NoSwitch, Safe}
use Rattle.so_scene_passes.specs.declared.declare.Declared.{Declared}
use Rattle.so_scene_build.specs.declared.code_builder.CodeBuilder.{CodeBuilder}
use Rattle.so_scene_fields.specs.ActTable.{handler_acts}
use Rattle.so_scene_build.specs.Build.{body_written, start_written, state_written, states_written, row_body, handler_written, rows_written, agent_written}
use Rattle.so_scene_passes.specs.Scope.{state_items, row_items}
use Rattle.so_scene_fields.specs.Values.{is_safe}
use Rattle.so_scene_fields.specs.Visits.{narrow, list_of, listed}
use Rattle.so_scene_build.specs.CodeBuilder.{acts_written, state_id}
use Rattle.so_scene_build.proofs.Codes.{switches, restrains, wrote_acts}

-- ---- one body

next_of : (rows : List Row) (i : Instr) (code : List Instr) → is_act i ≡ true → is_marked_next rows (i ∷ code) ≡ is_marked_next rows code
next_of rows (instr.End b) code e = absurd (true≢false (sym e))
next_of rows other code e = refl

marked_next : (rows : List Row) (may : Bool) (acts : List Instr) (b : Body) (more : List Instr) → AreActsBefore may 0 acts → is_marked_next rows (acts ++ instr.End b ∷ more) ≡ is_marked rows b
marked_next rows may [] b more h = refl
marked_next rows may (i ∷ acts) b more h = next_of rows i (acts ++ instr.End b ∷ more) h.0.act ∙ marked_next rows may acts b more h.1

body_safe : (rows : List Row) (may : Bool) (acts : List Instr) (b : Body) (more : List Instr) → AreActsBefore may 0 acts → (is_marked rows b ≡ true → AllByRecursion (λ i. may_be_safe i ≡ true) acts) → AreSafe rows more → AreSafe rows (acts ++ instr.End b ∷ more)
body_safe rows may [] b more h safe a = (λ m. refl, a)
body_safe rows may (i ∷ acts) b more h safe a = (
  λ m. (safe (sym (marked_next rows may (i ∷ acts) b more h) ∙ m)).0,
  body_safe rows may acts b more h.1 (λ m. (safe m).1) a,
)

-- code that is safe before what is
abbrev KeepsSafe : List Row → List Instr → Type 0
KeepsSafe rows code = (more : List Instr) → AreSafe rows more → AreSafe rows (code ++ more)

body_keeps : (names : Declared) (rows : List Row) (allowed : Allowed) (b : Body) (w : CodeBuilder) (found : Option Data) → (is_marked rows b ≡ true → restrains allowed ≡ true) → KeepsSafe rows w.code → KeepsSafe rows (body_written names allowed b w found).code
body_keeps names rows allowed b w found h keeps more a =
    let wrote = wrote_acts names allowed w (list_of found) in
    let same : ((acts_written names allowed w (list_of found)).code ++ instr.End b ∷ []) ++ more ≡ w.code ++ (wrote.acts ++ instr.End b ∷ more) =
    ap (λ c. (c ++ instr.End b ∷ []) ++ more) wrote.same ∙ (append_assoc (w.code ++ wrote.acts) (instr.End b ∷ []) more ∙ append_assoc w.code wrote.acts (instr.End b ∷ more)) in
    subst (AreSafe rows) (sym same) (keeps (wrote.acts ++ instr.End b ∷ more) (body_safe rows (switches allowed) wrote.acts b more wrote.fine (λ m. wrote.safe (h m)) a))

unmarked : (allowed : Allowed) → false ≡ true → restrains allowed ≡ true
unmarked allowed e = absurd (true≢false (sym e))

-- ---- start, finish and states

start_keeps : (names : Declared) (rows : List Row) (w : CodeBuilder) (d : Data) → KeepsSafe rows w.code → KeepsSafe rows (start_written names w d).code
start_keeps names rows w d k =
    body_keeps names rows AnyAct body.Finish (body_written names AnyAct body.Start w (get (codes "start") d)) (get (codes "finish") d) (unmarked AnyAct)
    (body_keeps names rows AnyAct body.Start w (get (codes "start") d) (unmarked AnyAct) k)

state_keeps : (names : Declared) (rows : List Row) (k : ℕ) (w : CodeBuilder) (d : Data) → KeepsSafe rows w.code → KeepsSafe rows (state_written names k w d).code
state_keeps names rows k w d keeps =
    body_keeps names rows NoSwitch (body.Exit (state_id k)) (body_written names NoSwitch (body.Enter (state_id k)) w (get (codes "enter") d)) (get (codes "exit") d) (unmarked NoSwitch)
    (body_keeps names rows NoSwitch (body.Enter (state_id k)) w (get (codes "enter") d) (unmarked NoSwitch) keeps)

states_keep : (names : Declared) (rows : List Row) (k : ℕ) (w : CodeBuilder) (ds : Items) → KeepsSafe rows w.code → KeepsSafe rows (states_written names k w ds).code
unfolding states_written
states_keep names rows k w no_items keeps = keeps
states_keep names rows k w (item d ds) keeps = states_keep names rows (suc k) (state_written names k w d) ds (state_keeps names rows k w d keeps)

-- ---- rows

-- rows that are as safe as the objects say
abbrev pub AreAsSaid : (Data → Row) → Type 0
AreAsSaid f = (d : Data) → (f d).safe ≡ is_safe d

row_marked : (f : Data → Row) → AreAsSaid f → (all : List Data) (k : ℕ) (d : Data) → slice_get all k ≡ Some d → narrow k ≡ k → is_marked (map f all) (row_body k) ≡ is_safe d
row_marked f said all k d e n =
    ap (λ j. is_safe_row (slice_get (map f all) j)) n
    ∙ (ap is_safe_row (slice_get-map f all k ∙ ap (option_map f) e) ∙ said d)

restrained : (b : Bool) → b ≡ true → restrains (if b then Safe else AnyAct) ≡ true
restrained true e = refl
restrained false e = absurd (true≢false (sym e))

handler_keeps : (names : Declared) (rows : List Row) (allowed : Allowed) (b : Body) (w : CodeBuilder) (found : Option Data) → (is_marked rows b ≡ true → restrains allowed ≡ true) → KeepsSafe rows w.code → KeepsSafe rows (handler_written names allowed b w found).code
handler_keeps names rows allowed b w None h keeps = keeps
handler_keeps names rows allowed b w (Some d) h keeps = body_keeps names rows allowed b w (Some d) h keeps

-- these are the items of all from the k-th on
abbrev AreFrom : ℕ → List Data → List Data → Type 0
AreFrom k ds all = (j : ℕ) → slice_get ds j ≡ slice_get all (k + j)

none_plus : (j : ℕ) → j ≡ 0 + j
none_plus j = omega arith

plus_none : (k : ℕ) → k + 0 ≡ k
plus_none k = omega arith

plus_next : (k j : ℕ) → k + suc j ≡ suc k + j
plus_next k j = omega arith

few_from : (k n : ℕ) → k + suc n ≤ 128 → narrow k ≡ k
few_from k n l = omega arith

rows_keep : (names : Declared) (f : Data → Row) → AreAsSaid f → (all : List Data) (k : ℕ) (w : CodeBuilder) (ds : Items) → k + items_len ds ≤ 128 → AreFrom k (listed ds) all → KeepsSafe (map f all) w.code → KeepsSafe (map f all) (rows_written names k w ds).code
unfolding rows_written
rows_keep names f said all k w no_items few from keeps = keeps
rows_keep names f said all k w (item d ds) few from keeps =
    let here : slice_get all k ≡ Some d = ap (slice_get all) (sym (plus_none k)) ∙ sym (from 0) in
    let marked = row_marked f said all k d here (few_from k (items_len ds) few) in
    rows_keep names f said all (suc k) (handler_written names (handler_acts d) (row_body k) w (get (codes "do") d)) ds (omega (arith, few)) (λ j. from (suc j) ∙ ap (slice_get all) (plus_next k j))
    (handler_keeps names (map f all) (handler_acts d) (row_body k) w (get (codes "do") d) (λ m. restrained (is_safe d) (sym marked ∙ m)) keeps)

pub agent_safe : (names : Declared) (f : Data → Row) (w : CodeBuilder) (d : Data) → AreAsSaid f → items_len (row_items d) ≤ 128 → w.code ≡ [] → AreSafe (map f (listed (row_items d))) (agent_written names w d).code
agent_safe names f w d said few e =
    let rows = map f (listed (row_items d)) in
    let empty : KeepsSafe rows w.code = λ more a. subst (λ c. AreSafe rows (c ++ more)) (sym e) a in
    let kept : KeepsSafe rows (agent_written names w d).code = rows_keep names f said (listed (row_items d)) 0 _ (row_items d) (omega (arith, few)) (λ j. ap (slice_get (listed (row_items d))) (none_plus j))
    (states_keep names rows 1 _ (state_items d) (start_keeps names rows w d empty)) in
    subst (AreSafe rows) (append-nil (agent_written names w d).code) (kept [] tt)
