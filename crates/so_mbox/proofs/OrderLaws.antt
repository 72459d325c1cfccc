-- Agents that are registered one after the other, or leave so.
use Rattle.std.proofs.Common.{◌≡◌, List, [], ◌∷◌, ◌++◌, Bool, true, false, not, ◌&&◌, ◌||◌, refl, sym, ◌∙◌, ap, append_assoc}
use Rattle.std.specs.List.{filter, list_any}
use Rattle.std.proofs.lemmas.Cmp.{nat_eq_equiv}
use Rattle.std.proofs.lemmas.List.{append-nil}
use Rattle.std.proofs.lemmas.List.Elements.{filter_agree}
use Rattle.so_lists.proofs.Filters.{filter-filter}
use Rattle.so_ids.specs.declared.AgentId.{AgentId}
use Rattle.so_mbox.specs.Table.{Subscriptions, same_agent, is_other, is_none_of, after_enter, after_leave, entered, departed}

-- they come last, in their order
pub order-entered : (agents : List AgentId) (t : Subscriptions) → (entered agents t).order ≡ t.order ++ agents
order-entered [] t = sym (append-nil t.order)
order-entered (a ∷ agents) t = order-entered agents (after_enter a t) ∙ append_assoc t.order (a ∷ []) agents

all_stay : (order : List AgentId) → order ≡ filter (is_none_of []) order
all_stay [] = refl
all_stay (b ∷ order) = ap (λ bs. b ∷ bs) (all_stay order)

neither : (x y z : Bool) → x ≡ y → (not x && not z) ≡ not (y || z)
neither true y z e = rw (← e) refl
neither false y z e = rw (← e) refl

one_more : (a : AgentId) (agents : List AgentId) (b : AgentId) → (is_other a b && is_none_of agents b) ≡ is_none_of (a ∷ agents) b
one_more a agents b = neither (same_agent a b) (same_agent b a) (list_any (same_agent b) agents) (nat_eq_equiv.symm a.0 b.0)

-- exactly the others stay, in their order
pub order-departed : (agents : List AgentId) (t : Subscriptions) → (departed agents t).order ≡ filter (is_none_of agents) t.order
order-departed [] t = all_stay t.order
order-departed (a ∷ agents) t =
    order-departed agents (after_leave a t)
    ∙ (filter-filter (is_none_of agents) (is_other a) t.order
    ∙ filter_agree (λ b. is_other a b && is_none_of agents b) (is_none_of (a ∷ agents)) (one_more a agents) t.order)
