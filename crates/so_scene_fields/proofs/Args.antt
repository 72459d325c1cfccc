-- The loop over the items of an act.
use Rattle.std.proofs.Common.{◌≡◌, ℕ, ◌+◌, ◌-◌, ◌<◌, ◌≤◌, List, [], ◌∷◌, length, drop, get_or, Option, Some, None, Bool, true, false, ◌&&◌, refl, sym, ap, ◌∙◌, add-one, drop-cons, arith, nat_le, if◌then◌else◌}
use Rattle.std.proofs.Math.ListN.{drop_of_length-le}
use Rattle.std.proofs.lemmas.Bool.{lt-leb, le-leb}
use Rattle.serde_json.proofs.Views.{items_len-items_view}
use Rattle.serde_json.specs.Data.{no_items}
use Rattle.serde_json.specs.View.{view, items_view}
use Rattle.serde_json.specs.declared.value.Value.{Value}
use Rattle.so_scene_fields.specs.declared.act_table.Arg.{Arg}
use Rattle.so_scene_fields.specs.declared.values.Trouble.{Trouble}
use Rattle.so_scene_fields.specs.declared.values.Trouble.TheVariants.{WrongShape}
use Rattle.so_scene_fields.specs.Acts.{arg_trouble, args_trouble, items_trouble}
use Rattle.so_scene_fields.specs.Values.{◌or◌}

pub args_here : (forms : List Arg) (rest : ℕ) (vs : List Value) (i : ℕ) (f : Arg) (v : Value) → i < length vs → length vs ≤ length forms
    → args_trouble (drop i forms) rest (items_view (drop i vs)) ≡ (arg_trouble (get_or forms i f) rest (view (get_or vs i v)) or args_trouble (drop (i + 1) forms) rest (items_view (drop (i + 1) vs)))
unfolding args_trouble
args_here forms rest vs i f v h k = let g : i < length forms = omega arith in rw (add-one, drop-cons vs i v, drop-cons forms i f)

pub args_stop : (all : Option Trouble) (forms : List Arg) (rest : ℕ) (vs : List Value) (i : ℕ) (f : Arg) (v w : Value) (r : Option Trouble) (t : Trouble) → i < length vs → length vs ≤ length forms → w ≡ get_or vs i v
    → all ≡ args_trouble (drop i forms) rest (items_view (drop i vs)) → r ≡ arg_trouble (get_or forms i f) rest (view w) → r ≡ Some t → Some t ≡ all
args_stop all forms rest vs i f v w r t h k x a e s =
    let q : arg_trouble (get_or forms i f) rest (view (get_or vs i v)) ≡ Some t = sym (ap (λ y. arg_trouble (get_or forms i f) rest (view y)) x) ∙ sym e ∙ s in
    sym (a ∙ args_here forms rest vs i f v h k ∙ ap (λ y. y or args_trouble (drop (i + 1) forms) rest (items_view (drop (i + 1) vs))) q)

pub args_go : (all : Option Trouble) (forms : List Arg) (rest : ℕ) (vs : List Value) (i : ℕ) (f : Arg) (v w : Value) (r : Option Trouble) → i < length vs → length vs ≤ length forms → w ≡ get_or vs i v
    → all ≡ args_trouble (drop i forms) rest (items_view (drop i vs)) → r ≡ arg_trouble (get_or forms i f) rest (view w) → r ≡ None → all ≡ args_trouble (drop (i + 1) forms) rest (items_view (drop (i + 1) vs))
args_go all forms rest vs i f v w r h k x a e s =
    let q : arg_trouble (get_or forms i f) rest (view (get_or vs i v)) ≡ None = sym (ap (λ y. arg_trouble (get_or forms i f) rest (view y)) x) ∙ sym e ∙ s in
    a ∙ args_here forms rest vs i f v h k ∙ ap (λ y. y or args_trouble (drop (i + 1) forms) rest (items_view (drop (i + 1) vs))) q

no_more : (fs : List Arg) (rest : ℕ) → args_trouble fs rest no_items ≡ None
unfolding args_trouble
no_more [] rest = refl
no_more (f ∷ fs) rest = refl

pub args_end : (all : Option Trouble) (forms : List Arg) (rest : ℕ) (vs : List Value) (i : ℕ) → length vs ≤ i → all ≡ args_trouble (drop i forms) rest (items_view (drop i vs)) → None ≡ all
args_end all forms rest vs i h a = sym (a ∙ rw (drop_of_length-le vs h) (no_more (drop i forms) rest))

-- ---- how many items there are

fits_by_len : (needed rest : ℕ) (vs : List Value) (fs : List Arg) → items_trouble rest needed (items_view vs) fs ≡ (if nat_le needed (length vs) && nat_le (length vs) (length fs) then args_trouble fs rest (items_view vs) else Some WrongShape)
fits_by_len needed rest vs fs = rw (items_len-items_view vs)

second_false : (b : Bool) {A : Type 0} (x y : A) → (if b && false then x else y) ≡ y
second_false true x y = refl
second_false false x y = refl

pub too_few : (needed rest : ℕ) (vs : List Value) (fs : List Arg) → length vs < needed → Some WrongShape ≡ items_trouble rest needed (items_view vs) fs
too_few needed rest vs fs h =
    let t : nat_le needed (length vs) ≡ false = lt-leb _ _ h in
    sym (fits_by_len needed rest vs fs ∙ rw t)

pub too_many : (needed rest : ℕ) (vs : List Value) (fs : List Arg) → length fs < length vs → Some WrongShape ≡ items_trouble rest needed (items_view vs) fs
too_many needed rest vs fs h =
    let t : nat_le (length vs) (length fs) ≡ false = lt-leb _ _ h in
    sym (fits_by_len needed rest vs fs ∙ rw t (second_false (nat_le needed (length vs)) (args_trouble fs rest (items_view vs)) (Some WrongShape)))

pub as_many : (needed rest : ℕ) (vs : List Value) (fs : List Arg) (r : Option Trouble) → needed ≤ length vs → length vs ≤ length fs → r ≡ args_trouble fs rest (items_view vs) → r ≡ items_trouble rest needed (items_view vs) fs
as_many needed rest vs fs r h k e =
    let t : nat_le needed (length vs) ≡ true = le-leb _ _ h in
    let u : nat_le (length vs) (length fs) ≡ true = le-leb _ _ k in
    e ∙ sym (fits_by_len needed rest vs fs ∙ rw (t, u))
