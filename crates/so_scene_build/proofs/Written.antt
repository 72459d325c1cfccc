-- The loops that write acts, states and rows.
use Rattle.std.proofs.Common.{◌≡◌, ℕ, ◌+◌, ◌-◌, ◌<◌, ◌≤◌, suc, List, codes, Option, length, drop, get_or, Result, Ok, sym, ap, ◌∙◌, add-one, drop-cons, arith, length-drop}
use Rattle.std.proofs.Math.ListN.{drop_of_length-le}
use Rattle.serde_json.proofs.Views.{items_len-items_view}
use Rattle.serde_json.specs.Data.{Data, Items, item}
use Rattle.serde_json.specs.Events.{items_len}
use Rattle.serde_json.specs.Find.{get}
use Rattle.serde_json.specs.View.{view, items_view}
use Rattle.serde_json.specs.declared.value.Value.{Value}
use Rattle.so_fault.specs.declared.fault.SceneFault.{SceneFault}
use Rattle.so_scene_fields.specs.ActTable.{handler_acts}
use Rattle.so_scene_fields.specs.declared.act_table.Allowed.{Allowed}
use Rattle.so_scene_passes.specs.declared.declare.Declared.{Declared}
use Rattle.so_scene_build.specs.declared.code_builder.CodeBuilder.{CodeBuilder}
use Rattle.so_code.specs.declared.instr.Body.TheVariants.{Row}
use Rattle.so_scene_fields.specs.Visits.{narrow}
use Rattle.so_scene_build.specs.Build.{row_body, handler_written, rows_written, state_written, states_written}
use Rattle.so_scene_build.specs.CodeBuilder.{act_written, acts_written}

abbrev pub ok : {S : Type 0} → S → Result S SceneFault
ok x = Ok x

pub ok_same : {S : Type 0} (a b : S) → ok a ≡ Ok b → a ≡ b
ok_same a b e = cc

sub-step : (n i : ℕ) → n - suc i ≡ n - i - 1
sub-step n i = omega arith

written_step : (names : Declared) (allowed : Allowed) (w : CodeBuilder) (d : Data) (ds : Items) (n : ℕ) → items_len ds ≡ n → acts_written names allowed w (item d ds) ≡ acts_written names allowed (act_written names allowed n w d) ds
unfolding acts_written
written_step names allowed w d ds n e = ap (λ k. acts_written names allowed (act_written names allowed k w d) ds) e

written_here : (names : Declared) (allowed : Allowed) (w : CodeBuilder) (vs : List Value) (i : ℕ) (v : Value) → i < length vs
    → acts_written names allowed w (items_view (drop i vs)) ≡ acts_written names allowed (act_written names allowed (length vs - i - 1) w (view (get_or vs i v))) (items_view (drop (i + 1) vs))
written_here names allowed w vs i v h =
    rw (add-one, drop-cons vs i v)
    (written_step names allowed w (view (get_or vs i v)) (items_view (drop (suc i) vs)) (length vs - i - 1)
    (items_len-items_view (drop (suc i) vs) ∙ length-drop (suc i) vs ∙ sub-step (length vs) i))

pub written_go : (all : CodeBuilder) (names : Declared) (allowed : Allowed) (w next : CodeBuilder) (vs : List Value) (i : ℕ) (v x : Value) → i < length vs → x ≡ get_or vs i v
    → all ≡ acts_written names allowed w (items_view (drop i vs)) → ok (act_written names allowed (length vs - i - 1) w (view x)) ≡ Ok next → all ≡ acts_written names allowed next (items_view (drop (i + 1) vs))
written_go all names allowed w next vs i v x h y a e =
    a ∙ written_here names allowed w vs i v h ∙ ap (λ q. acts_written names allowed q (items_view (drop (i + 1) vs))) (ap (λ q. act_written names allowed (length vs - i - 1) w (view q)) (sym y) ∙ ok_same _ _ e)

pub written_end : (all : CodeBuilder) (names : Declared) (allowed : Allowed) (w : CodeBuilder) (vs : List Value) (i : ℕ) → length vs ≤ i → all ≡ acts_written names allowed w (items_view (drop i vs)) → ok all ≡ Ok w
unfolding acts_written
written_end all names allowed w vs i h a = ap ok (a ∙ rw (drop_of_length-le vs h))

states_here : (names : Declared) (w : CodeBuilder) (vs : List Value) (i : ℕ) (v : Value) → i < length vs
    → states_written names (i + 1) w (items_view (drop i vs)) ≡ states_written names (i + 1 + 1) (state_written names (i + 1) w (view (get_or vs i v))) (items_view (drop (i + 1) vs))
unfolding states_written
states_here names w vs i v h = rw (add-one, add-one, drop-cons vs i v)

pub states_go : (all : CodeBuilder) (names : Declared) (w next : CodeBuilder) (vs : List Value) (i : ℕ) (v x : Value) → i < length vs → x ≡ get_or vs i v
    → all ≡ states_written names (i + 1) w (items_view (drop i vs)) → ok (state_written names (i + 1) w (view x)) ≡ Ok next → all ≡ states_written names (i + 1 + 1) next (items_view (drop (i + 1) vs))
states_go all names w next vs i v x h y a e =
    a ∙ states_here names w vs i v h ∙ ap (λ q. states_written names (i + 1 + 1) q (items_view (drop (i + 1) vs))) (ap (λ q. state_written names (i + 1) w (view q)) (sym y) ∙ ok_same _ _ e)

pub states_end : (all : CodeBuilder) (names : Declared) (w : CodeBuilder) (vs : List Value) (i : ℕ) → length vs ≤ i → all ≡ states_written names (i + 1) w (items_view (drop i vs)) → ok all ≡ Ok w
unfolding states_written
states_end all names w vs i h a = ap ok (a ∙ rw (drop_of_length-le vs h))

rows_here : (names : Declared) (w : CodeBuilder) (vs : List Value) (i : ℕ) (v : Value) → i < length vs
    → rows_written names i w (items_view (drop i vs)) ≡ rows_written names (i + 1) (handler_written names (handler_acts (view (get_or vs i v))) (row_body i) w (get (codes "do") (view (get_or vs i v)))) (items_view (drop (i + 1) vs))
unfolding rows_written
rows_here names w vs i v h = rw (add-one, drop-cons vs i v)

pub rows_go : (all : CodeBuilder) (names : Declared) (w next : CodeBuilder) (vs : List Value) (i k : ℕ) (v x : Value) (allowed : Allowed) (found : Option Data) → i < length vs → x ≡ get_or vs i v
    → all ≡ rows_written names i w (items_view (drop i vs)) → allowed ≡ handler_acts (view x) → found ≡ get (codes "do") (view x) → k ≡ narrow i → ok (handler_written names allowed (Row (record { 0 = k })) w found) ≡ Ok next → all ≡ rows_written names (i + 1) next (items_view (drop (i + 1) vs))
rows_go all names w next vs i k v x allowed found h y a m f n e =
    a ∙ rows_here names w vs i v h ∙ ap (λ q. rows_written names (i + 1) q (items_view (drop (i + 1) vs)))
    (ap (λ q. handler_written names (handler_acts (view q)) (row_body i) w (get (codes "do") (view q))) (sym y) ∙ ap (handler_written names (handler_acts (view x)) (row_body i) w) (sym f)
    ∙ ap (λ q. handler_written names (handler_acts (view x)) (Row (record { 0 = q })) w found) (sym n) ∙ ap (λ q. handler_written names q (Row (record { 0 = k })) w found) (sym m) ∙ ok_same _ _ e)

pub rows_end : (all : CodeBuilder) (names : Declared) (w : CodeBuilder) (vs : List Value) (i : ℕ) → length vs ≤ i → all ≡ rows_written names i w (items_view (drop i vs)) → ok all ≡ Ok w
unfolding rows_written
rows_end all names w vs i h a = ap ok (a ∙ rw (drop_of_length-le vs h))
