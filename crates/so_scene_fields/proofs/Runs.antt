-- One step after another.
use Rattle.std.proofs.Common.{◌≡◌, ◌-◌, Bor, option_map, sub-one, ℕ, ◌+◌, ◌<◌, ◌≤◌, suc, zero, List, [], ◌∷◌, ◌++◌, length, drop, get_or, Option, None, Result, Ok, Err, refl, sym, ap, ◌∙◌, add-one, drop-cons, arith, subst}
use Rattle.std.proofs.Math.ListN.{drop_of_length-le}
use Rattle.serde_json.specs.Data.{Data}
use Rattle.serde_json.specs.View.{view, items_view}
use Rattle.serde_json.specs.declared.value.Value.{Value}
use Rattle.so_scene_fields.specs.declared.table.ObjectKind.{ObjectKind}
use Rattle.so_scene_fields.specs.declared.table.ObjectKind.TheVariants as object
use Rattle.so_scene_fields.specs.Reads.{Reads}
use Rattle.so_scene_fields.specs.Visits.{fields}
use Rattle.so_scene_fields.specs.declared.table.Rule.{Rule}
use Rattle.so_scene_fields.specs.Table.{rules_of, objects_of}
use Rattle.so_fault.specs.Faults.{spelling}
use Rattle.serde_json.specs.Find.{get}
use Rattle.so_scene_fields.specs.Visits.{Visit, enters, tries, leaves, Place, visits, at_key, in_objects, run, ◌>>=◌, LeavesIf, Skips, fields_of, field_visits, items_from, at_item}
use Rattle.so_fault.specs.declared.fault.SceneFault.{SceneFault}
use Rattle.so_fault.specs.declared.fault.SceneRefusal.{SceneRefusal}
use Rattle.so_fault.specs.declared.fault.SceneRefusal.TheVariants.{Fault, NoMemory}

then_more : {S : Type 0} (step : S → Visit → Result S SceneFault) (r : Result S SceneFault) (xs ys : List Visit)
    → ((t : S) → run step t (xs ++ ys) ≡ (run step t xs >>= λ u. run step u ys))
    → (r >>= λ t. run step t (xs ++ ys)) ≡ ((r >>= λ t. run step t xs) >>= λ u. run step u ys)
then_more step (Ok t) xs ys h = h t
then_more step (Err e) xs ys h = refl

pub run-append : {S : Type 0} (step : S → Visit → Result S SceneFault) (s : S) (xs ys : List Visit) → run step s (xs ++ ys) ≡ (run step s xs >>= λ t. run step t ys)
unfolding run
run-append step s [] ys = refl
run-append step s (v ∷ xs) ys = then_more step (step s v) xs ys (λ t. run-append step t xs ys)

-- what is expected, written otherwise
pub on : {S : Type 0} (lack : Type 0) (a b : Result S SceneFault) (r : Result (Unit {0}) SceneRefusal) (n : S) → a ≡ b → LeavesIf lack b r n → LeavesIf lack a r n
on lack a b r n e h = subst (λ q. LeavesIf lack q r n) (sym e) h

fails_first : {S : Type 0} (lack : Type 0) (r : Result S SceneFault) (f : S → Result S SceneFault) (e : SceneRefusal) (n m : S) → LeavesIf lack r (Err e) n → LeavesIf lack (r >>= f) (Err e) m
fails_first lack r f NoMemory n m h = h
fails_first lack r f (Fault x) n m h = ap (λ q. q >>= f) h

-- a fault of the first part is the fault of the whole
pub fails : {S : Type 0} (lack : Type 0) (step : S → Visit → Result S SceneFault) (s : S) (xs ys : List Visit) (e : SceneRefusal) (n m : S) → LeavesIf lack (run step s xs) (Err e) n → LeavesIf lack (run step s (xs ++ ys)) (Err e) m
fails lack step s xs ys e n m h = on lack _ _ (Err e) m (run-append step s xs ys) (fails_first lack (run step s xs) (λ t. run step t ys) e n m h)

pub fails_at : {S : Type 0} (lack : Type 0) (step : S → Visit → Result S SceneFault) (s : S) (v : Visit) (ys : List Visit) (e : SceneRefusal) (n m : S) → LeavesIf lack (step s v) (Err e) n → LeavesIf lack (run step s (v ∷ ys)) (Err e) m
unfolding run
fails_at lack step s v ys e n m h = fails_first lack (step s v) (λ t. run step t ys) e n m h

-- after the first part the rest runs
pub goes_on : {S : Type 0} (step : S → Visit → Result S SceneFault) (s t : S) (xs ys : List Visit) → run step s xs ≡ Ok t → run step s (xs ++ ys) ≡ run step t ys
goes_on step s t xs ys h = run-append step s xs ys ∙ ap (λ q. q >>= λ u. run step u ys) h

pub goes_on_at : {S : Type 0} (step : S → Visit → Result S SceneFault) (s t : S) (v : Visit) (ys : List Visit) → step s v ≡ Ok t → run step s (v ∷ ys) ≡ run step t ys
unfolding run
goes_on_at step s t v ys h = ap (λ q. q >>= λ u. run step u ys) h

pub fields_here : (inside : ObjectKind → Place → Data → List Visit) (rules : List Rule) (i : ℕ) (rule : Rule) (place : Place) (d : Data) → i < length rules
    → fields_of inside (drop i rules) place d ≡ field_visits inside (get_or rules i rule) place d ++ fields_of inside (drop (i + 1) rules) place d
unfolding fields_of
fields_here inside rules i rule place d h = rw (add-one, drop-cons rules i rule)

pub fields_end : (inside : ObjectKind → Place → Data → List Visit) (rules : List Rule) (i : ℕ) (place : Place) (d : Data) → length rules ≤ i → fields_of inside (drop i rules) place d ≡ []
unfolding fields_of
fields_end inside rules i place d h = rw (drop_of_length-le rules h)

pub items_here : (inside : Place → Data → List Visit) (place : Place) (vs : List Value) (i : ℕ) (v : Value) → i < length vs
    → items_from inside place i (items_view (drop i vs)) ≡ inside (at_item place i) (view (get_or vs i v)) ++ items_from inside place (i + 1) (items_view (drop (i + 1) vs))
unfolding items_from
items_here inside place vs i v h = rw (add-one, drop-cons vs i v)

pub items_end : (inside : Place → Data → List Visit) (place : Place) (vs : List Value) (i : ℕ) → length vs ≤ i → items_from inside place i (items_view (drop i vs)) ≡ []
unfolding items_from
items_end inside place vs i h = rw (drop_of_length-le vs h)

-- ---- the loops: what is left runs as the whole did

pub fields_fail : {S : Type 0} (lack : Type 0) (all : Result S SceneFault) (step : S → Visit → Result S SceneFault) (s : S) (inside : ObjectKind → Place → Data → List Visit) (rules : List Rule) (i : ℕ) (rule : Rule) (place : Place) (d : Data) (e : SceneRefusal) (n m : S)
    → i < length rules → all ≡ run step s (fields_of inside (drop i rules) place d) → LeavesIf lack (run step s (field_visits inside (get_or rules i rule) place d)) (Err e) n → LeavesIf lack all (Err e) m
fields_fail lack all step s inside rules i rule place d e n m h a f = on lack _ _ (Err e) m (a ∙ ap (run step s) (fields_here inside rules i rule place d h)) (fails lack step s _ _ e n m f)

pub fields_go : {S : Type 0} (all : Result S SceneFault) (step : S → Visit → Result S SceneFault) (s t : S) (inside : ObjectKind → Place → Data → List Visit) (rules : List Rule) (i : ℕ) (rule : Rule) (place : Place) (d : Data)
    → i < length rules → all ≡ run step s (fields_of inside (drop i rules) place d) → run step s (field_visits inside (get_or rules i rule) place d) ≡ Ok t → all ≡ run step t (fields_of inside (drop (i + 1) rules) place d)
fields_go all step s t inside rules i rule place d h a f = a ∙ ap (run step s) (fields_here inside rules i rule place d h) ∙ goes_on step s t _ _ f

pub items_fail : {S : Type 0} (lack : Type 0) (all : Result S SceneFault) (step : S → Visit → Result S SceneFault) (s : S) (inside : Place → Data → List Visit) (place at : Place) (vs : List Value) (i : ℕ) (v w : Value) (e : SceneRefusal) (n m : S)
    → i < length vs → w ≡ get_or vs i v → at ≡ at_item place i → all ≡ run step s (items_from inside place i (items_view (drop i vs))) → LeavesIf lack (run step s (inside at (view w))) (Err e) n → LeavesIf lack all (Err e) m
items_fail lack all step s inside place at vs i v w e n m h x y a f =
    on lack _ _ (Err e) m (a ∙ ap (run step s) (items_here inside place vs i v h)) (fails lack step s _ _ e n m (on lack _ _ (Err e) n (ap (run step s) (ap (inside (at_item place i)) (ap view (sym x)) ∙ ap (λ p. inside p (view w)) (sym y))) f))

pub items_go : {S : Type 0} (all : Result S SceneFault) (step : S → Visit → Result S SceneFault) (s t : S) (inside : Place → Data → List Visit) (place at : Place) (vs : List Value) (i : ℕ) (v w : Value)
    → i < length vs → w ≡ get_or vs i v → at ≡ at_item place i → all ≡ run step s (items_from inside place i (items_view (drop i vs))) → run step s (inside at (view w)) ≡ Ok t → all ≡ run step t (items_from inside place (i + 1) (items_view (drop (i + 1) vs)))
items_go all step s t inside place at vs i v w h x y a f =
    a ∙ ap (run step s) (items_here inside place vs i v h) ∙ goes_on step s t _ _ (ap (run step s) (ap (inside (at_item place i)) (ap view (sym x)) ∙ ap (λ p. inside p (view w)) (sym y)) ∙ f)

-- ---- an object

ok-bind : {S : Type 0} (r : Result S SceneFault) → (r >>= λ t. Ok t) ≡ r
ok-bind (Ok x) = refl
ok-bind (Err e) = refl

pub run-one : {S : Type 0} (step : S → Visit → Result S SceneFault) (s : S) (v : Visit) → run step s (v ∷ []) ≡ step s v
unfolding run
run-one step s v = ok-bind (step s v)

pub visits_here : (n : ℕ) (kind : ObjectKind) (place : Place) (d : Data) → 0 < n → visits n kind place d ≡ enters kind place d ∷ (fields_of (visits (n - 1)) (rules_of kind) place d ++ leaves kind place d ∷ [])
unfolding visits
visits_here zero kind place d h = absurd (omega arith)
visits_here (suc n) kind place d h = rw (sub-one)

pub object_fails : {S : Type 0} (lack : Type 0) (step : S → Visit → Result S SceneFault) (s t : S) (n : ℕ) (kind : ObjectKind) (place : Place) (d : Data) (e : SceneRefusal) (a m : S) (rules : List Rule)
    → 0 < n → rules ≡ rules_of kind → step s (enters kind place d) ≡ Ok t → LeavesIf lack (run step t (fields_of (visits (n - 1)) rules place d)) (Err e) a → LeavesIf lack (run step s (visits n kind place d)) (Err e) m
object_fails lack step s t n kind place d e a m rules h r x f =
    on lack _ _ (Err e) m (ap (run step s) (visits_here n kind place d h) ∙ goes_on_at step s t _ _ x)
    (fails lack step t _ _ e a m (on lack _ _ (Err e) a (ap (λ q. run step t (fields_of (visits (n - 1)) q place d)) (sym r)) f))

pub object_ends : {S : Type 0} (lack : Type 0) (step : S → Visit → Result S SceneFault) (s t u : S) (n : ℕ) (kind : ObjectKind) (place : Place) (d : Data) (r : Result (Unit {0}) SceneRefusal) (m : S) (rules : List Rule)
    → 0 < n → rules ≡ rules_of kind → step s (enters kind place d) ≡ Ok t → run step t (fields_of (visits (n - 1)) rules place d) ≡ Ok u → LeavesIf lack (step u (leaves kind place d)) r m → LeavesIf lack (run step s (visits n kind place d)) r m
object_ends lack step s t u n kind place d r m rules h e x y f =
    on lack _ _ r m (ap (run step s) (visits_here n kind place d h) ∙ goes_on_at step s t _ _ x ∙ goes_on step t u _ _ (ap (λ q. run step t (fields_of (visits (n - 1)) q place d)) (sym e) ∙ y))
    (on lack _ _ r m (run-one step u _) f)

same_visit : (rule : Rule) (place at : Place) (d : Data) (k : List ℕ) (found : Option (Bor Value)) → k ≡ spelling rule.field → option_map (λ v. view v.now) found ≡ get k d → at ≡ at_key place rule
    → tries rule (at_key place rule) d (get (spelling rule.field) d) ≡ tries rule at d (option_map (λ v. view v.now) found)
same_visit rule place at d k found a b c = rw (c, b, a)

pub field_fails : {S : Type 0} (lack : Type 0) (step : S → Visit → Result S SceneFault) (s : S) (inside : ObjectKind → Place → Data → List Visit) (rule : Rule) (place at : Place) (d : Data) (k : List ℕ) (found : Option (Bor Value)) (e : SceneRefusal) (n m : S)
    → k ≡ spelling rule.field → option_map (λ v. view v.now) found ≡ get k d → at ≡ at_key place rule → LeavesIf lack (step s (tries rule at d (option_map (λ v. view v.now) found))) (Err e) n → LeavesIf lack (run step s (field_visits inside rule place d)) (Err e) m
unfolding field_visits
field_fails lack step s inside rule place at d k found e n m a b c f =
    fails_at lack step s _ _ e n m (on lack _ _ (Err e) n (ap (step s) (same_visit rule place at d k found a b c)) f)

pub field_ends : {S : Type 0} (lack : Type 0) (step : S → Visit → Result S SceneFault) (s t : S) (inside : ObjectKind → Place → Data → List Visit) (rule : Rule) (place at : Place) (d : Data) (k : List ℕ) (found : Option (Bor Value)) (o : Option ObjectKind) (r : Result (Unit {0}) SceneRefusal) (m : S)
    → k ≡ spelling rule.field → option_map (λ v. view v.now) found ≡ get k d → at ≡ at_key place rule → o ≡ objects_of rule.form → step s (tries rule at d (option_map (λ v. view v.now) found)) ≡ Ok t → LeavesIf lack (run step t (in_objects inside o at (option_map (λ v. view v.now) found))) r m → LeavesIf lack (run step s (field_visits inside rule place d)) r m
unfolding field_visits
field_ends lack step s t inside rule place at d k found o r m a b c w x f =
    on lack _ _ r m (goes_on_at step s t _ _ (ap (step s) (same_visit rule place at d k found a b c) ∙ x))
    (on lack _ _ r m (rw (c, b, a, w)) f)

-- nothing is done at a field that is passed over
pub field_skipped : {S : Type 0} (step : S → Visit → Result S SceneFault) (s : S) (inside : ObjectKind → Place → Data → List Visit) (rule : Rule) (place : Place) (d : Data) → Skips step rule.form → objects_of rule.form ≡ None → run step s (field_visits inside rule place d) ≡ Ok s
unfolding field_visits run
field_skipped step s inside rule place d h e =
    goes_on_at step s s _ _ (h s rule (at_key place rule) d (get (spelling rule.field) d) refl)
    ∙ ap (λ o. run step s (in_objects inside o (at_key place rule) (get (spelling rule.field) d))) e

-- ---- a pass that failed

reads_err : {S : Type 0} (expected actual : Result S SceneFault) (lack : Type 0) (e : SceneRefusal) (n : S) → expected ≡ actual → LeavesIf lack actual (Err e) n → Reads {T = S} (Err e) expected
reads_err expected actual lack NoMemory n q h = tt
reads_err expected actual lack (Fault f) n q h = q ∙ h

pub pass_fails : {S : Type 0} (lack : Type 0) (step : S → Visit → Result S SceneFault) (s t n : S) (place : Place) (d : Data) (e : SceneRefusal) → t ≡ s → place ≡ [] → LeavesIf lack (run step t (visits 4 object.Scene place d)) (Err e) n → Reads {T = S} (Err e) (run step s (fields d))
pass_fails lack step s t n place d e same root h =
    reads_err (run step s (fields d)) (run step t (visits 4 object.Scene place d)) lack e n
    (ap (λ x. run step x (fields d)) (sym same) ∙ ap (λ p. run step t (visits 4 object.Scene p d)) (sym root)) h
