-- A list of values that show the elements of a list.
use Rattle.std.proofs.Common.{◌≡◌, ℕ, ◌+◌, ◌<◌, ◌≤◌, List, [], ◌∷◌, ◌++◌, length, get_or, map, take, drop, Bool, true, false, refl, sym, ap, ◌∙◌, append_assoc, drop-cons, suc, ◌-◌, min, Option, inl, inr, arith}
use Rattle.std.proofs.Math.ListN.{drop_of_length-le}
use Rattle.std.proofs.lemmas.List.{map_push, take_more, take_all, append-nil}
use Rattle.serde_json.specs.Data.{Data}
use Rattle.serde_json.specs.View.{view}
use Rattle.serde_json.specs.declared.value.Value.{Value}
use Rattle.so_code.specs.declared.instr.Instr.{Instr}
use Rattle.so_code.specs.Bodies.{is_end}
use Rattle.std.proofs.lemmas.Bool.{cases_lt}
use Rattle.so_state.specs.declared.choice.Row.{Row}
use Rattle.so_state.specs.declared.states.State.{State}
use Rattle.so_scene.specs.declared.parts.AgentDef.{AgentDef}
use Rattle.so_scene.specs.declared.parts.SceneParts.{SceneParts}
use Rattle.so_scene_data.specs.Canonical.{state_data, row_data}
use Rattle.so_scene_data.specs.Sources.{acts_in, behind, behind_states, behind_row, states_in, rows_in, state_source, row_source}

-- behind the values that were there
pub shown_more : {X : Type 0} (shown : X → Data) (base : List Data) (vs new : List Value) (xs : List X) (i : ℕ) (d x : X) (v : Value) → i < length xs → x ≡ get_or xs i d
    → map view vs ≡ base ++ map shown (take i xs) → view v ≡ shown x → new ≡ vs ++ v ∷ [] → map view new ≡ base ++ map shown (take (i + 1) xs)
shown_more shown base vs new xs i d x v h y a e f =
    ap (map view) f ∙ map_push view vs v ∙ ap (λ q. q ++ view v ∷ []) a ∙ append_assoc base (map shown (take i xs)) (view v ∷ [])
    ∙ ap (λ q. base ++ (map shown (take i xs) ++ q ∷ [])) (e ∙ ap shown y) ∙ ap (λ q. base ++ q) (sym (map_push shown (take i xs) (get_or xs i d))) ∙ ap (λ q. base ++ map shown q) (sym (take_more xs i d h))

pub shown_all : {X : Type 0} (shown : X → Data) (base : List Data) (vs : List Value) (xs : List X) (i : ℕ) → length xs ≤ i → map view vs ≡ base ++ map shown (take i xs) → map view vs ≡ base ++ map shown xs
shown_all shown base vs xs i h a = a ∙ ap (λ q. base ++ map shown q) (take_all i xs h)

-- before the elements that are left
pub rest_more : {X : Type 0} (shown : X → Data) (all : List Data) (vs new : List Value) (x : X) (rest : List X) (v : Value) → map view vs ++ map shown (x ∷ rest) ≡ all → view v ≡ shown x → new ≡ vs ++ v ∷ [] → map view new ++ map shown rest ≡ all
rest_more shown all vs new x rest v a e f =
    ap (λ q. q ++ map shown rest) (ap (map view) f ∙ map_push view vs v) ∙ append_assoc (map view vs) (view v ∷ []) (map shown rest) ∙ ap (λ q. map view vs ++ q ∷ map shown rest) e ∙ a

pub rest_done : {X : Type 0} (shown : X → Data) (all : List Data) (vs : List Value) (rest : List X) → rest ≡ [] → map view vs ++ map shown rest ≡ all → map view vs ≡ all
rest_done shown all vs rest e a = sym (append-nil (map view vs)) ∙ ap (λ q. map view vs ++ map shown q) (sym e) ∙ a

-- what is left at an element
pub drop_more : {X : Type 0} (xs : List X) (i : ℕ) (d : X) → i < length xs → drop i xs ≡ get_or xs i d ∷ drop (i + 1) xs
drop_more xs i d l = let e : suc i ≡ i + 1 = omega arith in drop-cons xs i d l ∙ ap (λ k. get_or xs i d ∷ drop k xs) e

-- ---- the acts of a body

acts_step : (i : Instr) (code : List Instr) (b : Bool) → is_end i ≡ b → b ≡ false → acts_in (i ∷ code) ≡ i ∷ acts_in code
unfolding acts_in
acts_step i code b e f = rw (e, f)

pub acts_go : (code : List Instr) (i : ℕ) (d x : Instr) → i < length code → x ≡ get_or code i d → is_end x ≡ false → acts_in (drop i code) ≡ x ∷ acts_in (drop (i + 1) code)
acts_go code i d x l y e =
    ap acts_in (drop_more code i d l) ∙ (ap (λ (z : Instr). acts_in (z ∷ drop (i + 1) code)) (sym y) ∙ acts_step x (drop (i + 1) code) (is_end x) refl e)

acts_end : (i : Instr) (code : List Instr) → is_end i ≡ true → acts_in (i ∷ code) ≡ []
unfolding acts_in
acts_end i code e = rw e

pub acts_stop : (code : List Instr) (i : ℕ) (d x : Instr) → i < length code → x ≡ get_or code i d → is_end x ≡ true → acts_in (drop i code) ≡ []
acts_stop code i d x l y e = ap acts_in (drop_more code i d l) ∙ (ap (λ (z : Instr). acts_in (z ∷ drop (i + 1) code)) (sym y) ∙ acts_end x (drop (i + 1) code) e)

pub acts_none : (code : List Instr) (i : ℕ) → length code ≤ i → acts_in (drop i code) ≡ []
unfolding acts_in
acts_none code i l = ap acts_in (drop_of_length-le code l)

behind_step : (i : Instr) (code : List Instr) → is_end i ≡ false → behind (i ∷ code) ≡ behind code
unfolding behind
behind_step i code e = rw e

behind_end : (i : Instr) (code : List Instr) → is_end i ≡ true → behind (i ∷ code) ≡ code
unfolding behind
behind_end i code e = rw e

pub behind_go : (code : List Instr) (i : ℕ) (d x : Instr) → i < length code → x ≡ get_or code i d → is_end x ≡ false → behind (drop i code) ≡ behind (drop (i + 1) code)
behind_go code i d x l y e = ap behind (drop_more code i d l) ∙ (ap (λ (z : Instr). behind (z ∷ drop (i + 1) code)) (sym y) ∙ behind_step x (drop (i + 1) code) e)

pub behind_stop : (code : List Instr) (i : ℕ) (d x : Instr) → i < length code → x ≡ get_or code i d → is_end x ≡ true → behind (drop i code) ≡ drop (i + 1) code
behind_stop code i d x l y e = ap behind (drop_more code i d l) ∙ (ap (λ (z : Instr). behind (z ∷ drop (i + 1) code)) (sym y) ∙ behind_end x (drop (i + 1) code) e)

pub behind_none : (code : List Instr) (i : ℕ) → length code ≤ i → behind (drop i code) ≡ []
unfolding behind
behind_none code i l = ap behind (drop_of_length-le code l)

-- ---- the bodies of states and rows

pub behind_go_on : (n k : ℕ) (left one two : List Instr) → k < n → one ≡ behind left → two ≡ behind one → behind_states (n - (k + 1)) two ≡ behind_states (n - k) left
unfolding behind_states
behind_go_on n k left one two l e f = let m : n - k ≡ suc (n - (k + 1)) = omega arith in rw (f, e, m) refl

pub behind_stays : (n k : ℕ) (left : List Instr) → n ≤ k → behind_states (n - k) left ≡ left
unfolding behind_states
behind_stays n k left l = let m : n - k ≡ 0 = omega arith in rw m refl

states_next : (name : List ℕ) (names : List (List ℕ)) (state : State) (states : List State) (left : List Instr) → states_in (name ∷ names) (state ∷ states) left ≡ state_source name state left ∷ states_in names states (behind (behind left))
unfolding states_in
states_next name names state states left = refl

states_none : (names : List (List ℕ)) (left : List Instr) → states_in names [] left ≡ []
unfolding states_in
states_none [] left = refl
states_none (name ∷ names) left = refl

names_none : (states : List State) (left : List Instr) → states_in [] states left ≡ []
unfolding states_in
names_none states left = refl

pub states_more : (s : SceneParts) (a : AgentDef) (all : List Data) (vs new : List Value) (names : List (List ℕ)) (states : List State) (n k : ℕ) (d x : List ℕ) (e : State) (left one two : List Instr) (v : Value) → x ≡ get_or names k d → n ≡ min (length names) (length states) → k < n
    → map view vs ++ map (state_data s a) (states_in (drop k names) (drop k states) left) ≡ all → view v ≡ state_data s a (state_source x (get_or states k e) left) → new ≡ vs ++ v ∷ [] → one ≡ behind left → two ≡ behind one
    → map view new ++ map (state_data s a) (states_in (drop (k + 1) names) (drop (k + 1) states) two) ≡ all
states_more s a all vs new names states n k d x e left one two v y m l h f g p q =
    let ln : k < length names = omega arith in
    let ls : k < length states = omega arith in
    let step : states_in (drop k names) (drop k states) left ≡ state_source (get_or names k d) (get_or states k e) left ∷ states_in (drop (k + 1) names) (drop (k + 1) states) (behind (behind left)) =
    ap (λ x. states_in x (drop k states) left) (drop_more names k d ln) ∙ (ap (λ x. states_in (get_or names k d ∷ drop (k + 1) names) x left) (drop_more states k e ls) ∙ states_next (get_or names k d) (drop (k + 1) names) (get_or states k e) (drop (k + 1) states) left) in
    ap (λ x. map view new ++ map (state_data s a) (states_in (drop (k + 1) names) (drop (k + 1) states) x)) (q ∙ ap behind p)
    ∙ rest_more (state_data s a) all vs new (state_source (get_or names k d) (get_or states k e) left) (states_in (drop (k + 1) names) (drop (k + 1) states) (behind (behind left))) v
    (ap (λ x. map view vs ++ map (state_data s a) x) (sym step) ∙ h) (f ∙ ap (λ z. state_data s a (state_source z (get_or states k e) left)) y) g

states_past : (names : List (List ℕ)) (states : List State) (n k : ℕ) (left : List Instr) → n ≡ min (length names) (length states) → n ≤ k → states_in (drop k names) (drop k states) left ≡ []
states_past names states n k left m l =
    elim (cases_lt k (length names)) [
      | inl lt ↦ ap (λ x. states_in (drop k names) x left) (drop_of_length-le states (omega arith)) ∙ states_none (drop k names) left
      | inr ge ↦ ap (λ x. states_in x (drop k states) left) (drop_of_length-le names ge) ∙ names_none (drop k states) left
    ]

pub states_done : (s : SceneParts) (a : AgentDef) (all : List Data) (vs : List Value) (names : List (List ℕ)) (states : List State) (n k : ℕ) (left : List Instr) → n ≡ min (length names) (length states) → n ≤ k
    → map view vs ++ map (state_data s a) (states_in (drop k names) (drop k states) left) ≡ all → map view vs ≡ all
states_done s a all vs names states n k left m l h = rest_done (state_data s a) all vs _ (states_past names states n k left m l) h

rows_next : (id : Option (List ℕ)) (ids : List (Option (List ℕ))) (row : Row) (rows : List Row) (left : List Instr) → rows_in (id ∷ ids) (row ∷ rows) left ≡ row_source id row left ∷ rows_in ids rows (behind_row row left)
unfolding rows_in
rows_next id ids row rows left = refl

rows_none : (ids : List (Option (List ℕ))) (left : List Instr) → rows_in ids [] left ≡ []
unfolding rows_in
rows_none [] left = refl
rows_none (id ∷ ids) left = refl

ids_none : (rows : List Row) (left : List Instr) → rows_in [] rows left ≡ []
unfolding rows_in
ids_none rows left = refl

pub rows_more : (s : SceneParts) (a : AgentDef) (all : List Data) (vs new : List Value) (ids : List (Option (List ℕ))) (rows : List Row) (n k : ℕ) (d x : Option (List ℕ)) (e : Row) (left one : List Instr) (v : Value) → x ≡ get_or ids k d → n ≡ min (length ids) (length rows) → k < n
    → map view vs ++ map (row_data s a) (rows_in (drop k ids) (drop k rows) left) ≡ all → view v ≡ row_data s a (row_source x (get_or rows k e) left) → new ≡ vs ++ v ∷ [] → one ≡ behind_row (get_or rows k e) left
    → map view new ++ map (row_data s a) (rows_in (drop (k + 1) ids) (drop (k + 1) rows) one) ≡ all
rows_more s a all vs new ids rows n k d x e left one v y m l h f g p =
    let ln : k < length ids = omega arith in
    let ls : k < length rows = omega arith in
    let step : rows_in (drop k ids) (drop k rows) left ≡ row_source (get_or ids k d) (get_or rows k e) left ∷ rows_in (drop (k + 1) ids) (drop (k + 1) rows) (behind_row (get_or rows k e) left) =
    ap (λ x. rows_in x (drop k rows) left) (drop_more ids k d ln) ∙ (ap (λ x. rows_in (get_or ids k d ∷ drop (k + 1) ids) x left) (drop_more rows k e ls) ∙ rows_next (get_or ids k d) (drop (k + 1) ids) (get_or rows k e) (drop (k + 1) rows) left) in
    ap (λ x. map view new ++ map (row_data s a) (rows_in (drop (k + 1) ids) (drop (k + 1) rows) x)) p
    ∙ rest_more (row_data s a) all vs new (row_source (get_or ids k d) (get_or rows k e) left) (rows_in (drop (k + 1) ids) (drop (k + 1) rows) (behind_row (get_or rows k e) left)) v
    (ap (λ x. map view vs ++ map (row_data s a) x) (sym step) ∙ h) (f ∙ ap (λ z. row_data s a (row_source z (get_or rows k e) left)) y) g

rows_past : (ids : List (Option (List ℕ))) (rows : List Row) (n k : ℕ) (left : List Instr) → n ≡ min (length ids) (length rows) → n ≤ k → rows_in (drop k ids) (drop k rows) left ≡ []
rows_past ids rows n k left m l =
    elim (cases_lt k (length ids)) [
      | inl lt ↦ ap (λ x. rows_in (drop k ids) x left) (drop_of_length-le rows (omega arith)) ∙ rows_none (drop k ids) left
      | inr ge ↦ ap (λ x. rows_in x (drop k rows) left) (drop_of_length-le ids ge) ∙ ids_none (drop k rows) left
    ]

pub rows_done : (s : SceneParts) (a : AgentDef) (all : List Data) (vs : List Value) (ids : List (Option (List ℕ))) (rows : List Row) (n k : ℕ) (left : List Instr) → n ≡ min (length ids) (length rows) → n ≤ k
    → map view vs ++ map (row_data s a) (rows_in (drop k ids) (drop k rows) left) ≡ all → map view vs ≡ all
rows_done s a all vs ids rows n k left m l h = rest_done (row_data s a) all vs _ (rows_past ids rows n k left m l) h
