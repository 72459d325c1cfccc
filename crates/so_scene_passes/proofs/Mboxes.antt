-- The loop that reads named mboxes.
use Rattle.std.proofs.Common.{◌≡◌, ℕ, ◌+◌, ◌-◌, ◌<◌, ◌≤◌, List, length, drop, get_or, Result, Ok, sym, ap, ◌∙◌, add-one, drop-cons}
use Rattle.std.proofs.Math.ListN.{drop_of_length-le}
use Rattle.serde_json.specs.View.{view, items_view}
use Rattle.serde_json.specs.declared.value.Value.{Value}
use Rattle.so_fault.specs.declared.fault.SceneFault.{SceneFault}
use Rattle.so_scene_passes.specs.declared.declare.Declared.{Declared}
use Rattle.so_scene_fields.specs.Values.{name_of}
use Rattle.so_scene_passes.specs.Twice.{with_mbox_read, with_mboxes}

abbrev named : Declared → Result Declared SceneFault
named s = Ok s

named_same : (a b : Declared) → named a ≡ Ok b → a ≡ b
named_same a b e = cc

mboxes_here : (s : Declared) (vs : List Value) (i : ℕ) (v : Value) → i < length vs → with_mboxes (items_view (drop i vs)) s ≡ with_mboxes (items_view (drop (i + 1) vs)) (with_mbox_read (name_of (view (get_or vs i v))) s)
unfolding with_mboxes
mboxes_here s vs i v h = rw (add-one, drop-cons vs i v)

pub mboxes_go : (all s next : Declared) (vs : List Value) (i : ℕ) (v x : Value) → i < length vs → x ≡ get_or vs i v
    → all ≡ with_mboxes (items_view (drop i vs)) s → named (with_mbox_read (name_of (view x)) s) ≡ Ok next → all ≡ with_mboxes (items_view (drop (i + 1) vs)) next
mboxes_go all s next vs i v x h y a e =
    a ∙ mboxes_here s vs i v h ∙ ap (with_mboxes (items_view (drop (i + 1) vs))) (ap (λ q. with_mbox_read (name_of (view q)) s) (sym y) ∙ named_same _ _ e)

pub mboxes_end : (all s : Declared) (vs : List Value) (i : ℕ) → length vs ≤ i → all ≡ with_mboxes (items_view (drop i vs)) s → named all ≡ Ok s
unfolding with_mboxes
mboxes_end all s vs i h a = ap named (a ∙ rw (drop_of_length-le vs h))
