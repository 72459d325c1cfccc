-- The loops of the first pass.
use Rattle.std.proofs.Common.{◌≡◌, ℕ, ◌+◌, ◌-◌, ◌<◌, ◌≤◌, suc, List, [], ◌∷◌, length, drop, get_or, Option, Some, None, Bool, true, false, sym, ap, ◌∙◌, add-one, drop-cons, arith, length-drop, nat_le, eq-eqb, if◌then◌else◌}
use Rattle.std.proofs.Math.ListN.{drop_of_length-le}
use Rattle.std.proofs.lemmas.Bool.{lt-leb, le-leb, ne_eqb}
use Rattle.std.specs.Prelude.{◌==◌}
use Rattle.serde_json.proofs.Views.{items_len-items_view}
use Rattle.serde_json.specs.Data.{Data}
use Rattle.serde_json.specs.View.{view, items_view}
use Rattle.serde_json.specs.declared.value.Value.{Value}
use Rattle.so_scene_fields.specs.declared.act_table.Allowed.{Allowed}
use Rattle.so_scene_fields.specs.declared.values.Trouble.{Trouble}
use Rattle.so_scene_fields.specs.declared.values.Trouble.TheVariants.{WrongShape, OutOfRange}
use Rattle.std.specs.Prelude.{String, string_bytes, bytes_eq}
use Rattle.std.specs.declared.alloc.Global.{Global}
use Rattle.serde_json.specs.View.{members_view}
use Rattle.so_fault.specs.declared.fault.SceneFault.{SceneFault}
use Rattle.so_scene_fields.specs.declared.table.Rule.{Rule}
use Rattle.so_fault.specs.Faults.{spelling}
use Rattle.so_scene_fields.specs.Visits.{Place, at_item}
use Rattle.so_scene_passes.specs.Shape.{is_known, has_unknown, first_of, is_within, list_trouble, fixed_trouble, acts_from, acts_fault, trouble_at, placed}
use Rattle.so_fault.specs.declared.fault.SceneFault.TheVariants as fault
use Rattle.so_scene_fields.specs.Acts.{act_trouble}
use Rattle.so_scene_fields.specs.Values.{◌or◌}

-- ---- the first trouble of an item

pub first_here : (f : Data → Option Trouble) (vs : List Value) (i : ℕ) (v : Value) → i < length vs
    → first_of f (items_view (drop i vs)) ≡ (f (view (get_or vs i v)) or first_of f (items_view (drop (i + 1) vs)))
unfolding first_of
first_here f vs i v h = rw (add-one, drop-cons vs i v)

pub first_stop : (all : Option Trouble) (f : Data → Option Trouble) (vs : List Value) (i : ℕ) (v w : Value) (t : Trouble) → i < length vs → w ≡ get_or vs i v
    → all ≡ first_of f (items_view (drop i vs)) → f (view w) ≡ Some t → Some t ≡ all
first_stop all f vs i v w t h x a e =
    sym (a ∙ first_here f vs i v h ∙ ap (λ y. y or first_of f (items_view (drop (i + 1) vs))) (ap (λ y. f (view y)) (sym x) ∙ e))

pub first_go : (all : Option Trouble) (f : Data → Option Trouble) (vs : List Value) (i : ℕ) (v w : Value) → i < length vs → w ≡ get_or vs i v
    → all ≡ first_of f (items_view (drop i vs)) → f (view w) ≡ None → all ≡ first_of f (items_view (drop (i + 1) vs))
first_go all f vs i v w h x a e =
    a ∙ first_here f vs i v h ∙ ap (λ y. y or first_of f (items_view (drop (i + 1) vs))) (ap (λ y. f (view y)) (sym x) ∙ e)

pub first_end : (all : Option Trouble) (f : Data → Option Trouble) (vs : List Value) (i : ℕ) → length vs ≤ i → all ≡ first_of f (items_view (drop i vs)) → None ≡ all
unfolding first_of
first_end all f vs i h a = sym (a ∙ rw (drop_of_length-le vs h))

-- ---- limits of lists

by_len : (limit : Option ℕ) (f : Data → Option Trouble) (vs : List Value) → list_trouble limit f (Some (items_view vs)) ≡ (if is_within limit (length vs) then first_of f (items_view vs) else Some OutOfRange)
by_len limit f vs = rw (items_len-items_view vs)

pub within : (limit : Option ℕ) (f : Data → Option Trouble) (vs : List Value) (b : Bool) (r : Option Trouble) → b ≡ is_within limit (length vs) → b ≡ true → r ≡ first_of f (items_view vs) → r ≡ list_trouble limit f (Some (items_view vs))
within limit f vs b r e t h = h ∙ sym (by_len limit f vs ∙ ap (λ (y : Bool). if y then first_of f (items_view vs) else Some OutOfRange) (sym e ∙ t))

pub past : (limit : Option ℕ) (f : Data → Option Trouble) (vs : List Value) (b : Bool) → b ≡ is_within limit (length vs) → b ≡ false → Some OutOfRange ≡ list_trouble limit f (Some (items_view vs))
past limit f vs b e t = sym (by_len limit f vs ∙ ap (λ (y : Bool). if y then first_of f (items_view vs) else Some OutOfRange) (sym e ∙ t))

fixed_by_len : (n : ℕ) (f : Data → Option Trouble) (vs : List Value) → fixed_trouble n f (Some (items_view vs)) ≡ (if length vs == n then first_of f (items_view vs) else Some WrongShape)
fixed_by_len n f vs = rw (items_len-items_view vs)

pub fixed : (n : ℕ) (f : Data → Option Trouble) (vs : List Value) (r : Option Trouble) → length vs ≡ n → r ≡ first_of f (items_view vs) → r ≡ fixed_trouble n f (Some (items_view vs))
fixed n f vs r e h = let t : (length vs == n) ≡ true = eq-eqb (length vs) n e in h ∙ sym (fixed_by_len n f vs ∙ rw t)

pub not_fixed : (n : ℕ) (f : Data → Option Trouble) (vs : List Value) → (length vs ≡ n → ⊥) → Some WrongShape ≡ fixed_trouble n f (Some (items_view vs))
not_fixed n f vs o = let t : (length vs == n) ≡ false = ne_eqb (length vs) n o in sym (fixed_by_len n f vs ∙ rw t)

acts_by_len : (allowed : Allowed) (place : Place) (vs : List Value) → acts_fault allowed place (Some (items_view vs)) ≡ (if nat_le (length vs) 256 then acts_from (act_trouble allowed) place 0 (items_view vs) else Some (fault.OutOfRange place))
acts_by_len allowed place vs = rw (items_len-items_view vs)

pub few_acts : (allowed : Allowed) (place : Place) (vs : List Value) (r : Option SceneFault) → length vs ≤ 256 → r ≡ acts_from (act_trouble allowed) place 0 (items_view vs) → r ≡ acts_fault allowed place (Some (items_view vs))
few_acts allowed place vs r h e = let t : nat_le (length vs) 256 ≡ true = le-leb _ _ h in e ∙ sym (acts_by_len allowed place vs ∙ rw t)

pub many_acts : (allowed : Allowed) (place at : Place) (vs : List Value) → 256 < length vs → at ≡ place → Some (fault.OutOfRange at) ≡ acts_fault allowed place (Some (items_view vs))
many_acts allowed place at vs h e = let t : nat_le (length vs) 256 ≡ false = lt-leb _ _ h in ap (λ p. Some (fault.OutOfRange p)) e ∙ sym (acts_by_len allowed place vs ∙ rw t)

-- ---- the first fault of an act

sub-step : (n i : ℕ) → n - suc i ≡ n - i - 1
sub-step n i = omega arith

pub acts_here : (f : ℕ → Data → Option Trouble) (place : Place) (vs : List Value) (i : ℕ) (v : Value) → i < length vs
    → acts_from f place i (items_view (drop i vs)) ≡ (trouble_at (at_item place i) (f (length vs - i - 1) (view (get_or vs i v))) or acts_from f place (i + 1) (items_view (drop (i + 1) vs)))
unfolding acts_from
acts_here f place vs i v h = rw (add-one, drop-cons vs i v, items_len-items_view (drop (suc i) vs), length-drop (suc i) vs, sub-step (length vs) i)

pub acts_stop : (all : Option SceneFault) (f : ℕ → Data → Option Trouble) (place at : Place) (vs : List Value) (i : ℕ) (v w : Value) (r : Option Trouble) (t : Trouble) (x' : SceneFault) → i < length vs → w ≡ get_or vs i v
    → all ≡ acts_from f place i (items_view (drop i vs)) → r ≡ f (length vs - i - 1) (view w) → r ≡ Some t → at ≡ at_item place i → x' ≡ placed at t → Some x' ≡ all
acts_stop all f place at vs i v w r t x' h x a e s y z =
    let q : f (length vs - i - 1) (view (get_or vs i v)) ≡ Some t = ap (λ y. f (length vs - i - 1) (view y)) (sym x) ∙ sym e ∙ s in
    ap Some (z ∙ ap (λ p. placed p t) y) ∙ sym (a ∙ acts_here f place vs i v h ∙ ap (λ y. trouble_at (at_item place i) y or acts_from f place (i + 1) (items_view (drop (i + 1) vs))) q)

pub acts_go : (all : Option SceneFault) (f : ℕ → Data → Option Trouble) (place : Place) (vs : List Value) (i : ℕ) (v w : Value) (r : Option Trouble) → i < length vs → w ≡ get_or vs i v
    → all ≡ acts_from f place i (items_view (drop i vs)) → r ≡ f (length vs - i - 1) (view w) → r ≡ None → all ≡ acts_from f place (i + 1) (items_view (drop (i + 1) vs))
acts_go all f place vs i v w r h x a e s =
    let q : f (length vs - i - 1) (view (get_or vs i v)) ≡ None = ap (λ y. f (length vs - i - 1) (view y)) (sym x) ∙ sym e ∙ s in
    a ∙ acts_here f place vs i v h ∙ ap (λ y. trouble_at (at_item place i) y or acts_from f place (i + 1) (items_view (drop (i + 1) vs))) q

pub acts_end : (all : Option SceneFault) (f : ℕ → Data → Option Trouble) (place : Place) (vs : List Value) (i : ℕ) → length vs ≤ i → all ≡ acts_from f place i (items_view (drop i vs)) → None ≡ all
unfolding acts_from
acts_end all f place vs i h a = sym (a ∙ rw (drop_of_length-le vs h))

-- ---- keys

pub known_here : (rules : List Rule) (name : List ℕ) (i : ℕ) (rule : Rule) → i < length rules
    → is_known (drop i rules) name ≡ (if bytes_eq (spelling (get_or rules i rule).field) name then true else is_known (drop (i + 1) rules) name)
unfolding is_known
known_here rules name i rule h = rw (add-one, drop-cons rules i rule)

pub known_stop : (all : Bool) (rules : List Rule) (name k : List ℕ) (i : ℕ) (rule : Rule) (b : Bool) → i < length rules
    → all ≡ is_known (drop i rules) name → k ≡ spelling (get_or rules i rule).field → b ≡ bytes_eq k name → b ≡ true → true ≡ all
known_stop all rules name k i rule b h a e f t =
    sym (a ∙ known_here rules name i rule h ∙ ap (λ y. if y then true else is_known (drop (i + 1) rules) name) (ap (λ y. bytes_eq y name) (sym e) ∙ sym f ∙ t))

pub known_go : (all : Bool) (rules : List Rule) (name k : List ℕ) (i : ℕ) (rule : Rule) (b : Bool) → i < length rules
    → all ≡ is_known (drop i rules) name → k ≡ spelling (get_or rules i rule).field → b ≡ bytes_eq k name → b ≡ false → all ≡ is_known (drop (i + 1) rules) name
known_go all rules name k i rule b h a e f t =
    a ∙ known_here rules name i rule h ∙ ap (λ y. if y then true else is_known (drop (i + 1) rules) name) (ap (λ y. bytes_eq y name) (sym e) ∙ sym f ∙ t)

pub known_end : (all : Bool) (rules : List Rule) (name : List ℕ) (i : ℕ) → length rules ≤ i → all ≡ is_known (drop i rules) name → false ≡ all
unfolding is_known
known_end all rules name i h a = sym (a ∙ rw (drop_of_length-le rules h))

pub unknown_stop : (all b : Bool) (rules : List Rule) (es more : List (String Global × Value)) (name : String Global) (k : List ℕ) (v : Value)
    → all ≡ has_unknown rules (members_view es) → es ≡ (name, v) ∷ more → k ≡ string_bytes name → b ≡ is_known rules k → b ≡ false → true ≡ all
unfolding has_unknown
unknown_stop all b rules es more name k v a e n f t =
    sym (a ∙ ap (λ y. has_unknown rules (members_view y)) e ∙ ap (λ y. if y then has_unknown rules (members_view more) else true) (ap (is_known rules) (sym n) ∙ sym f ∙ t))

pub unknown_go : (all b : Bool) (rules : List Rule) (es more : List (String Global × Value)) (name : String Global) (k : List ℕ) (v : Value)
    → all ≡ has_unknown rules (members_view es) → es ≡ (name, v) ∷ more → k ≡ string_bytes name → b ≡ is_known rules k → b ≡ true → all ≡ has_unknown rules (members_view more)
unfolding has_unknown
unknown_go all b rules es more name k v a e n f t =
    a ∙ ap (λ y. has_unknown rules (members_view y)) e ∙ ap (λ y. if y then has_unknown rules (members_view more) else true) (ap (is_known rules) (sym n) ∙ sym f ∙ t)

pub unknown_end : (all : Bool) (rules : List Rule) (es : List (String Global × Value)) → all ≡ has_unknown rules (members_view es) → es ≡ [] → false ≡ all
unfolding has_unknown
unknown_end all rules es a e = sym (a ∙ ap (λ y. has_unknown rules (members_view y)) e)
