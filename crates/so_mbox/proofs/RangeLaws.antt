-- Whether an agent is one of so many from the first on.
use Rattle.std.proofs.Common.{◌≡◌, ℕ, ◌+◌, ◌-◌, ◌<◌, ◌≤◌, true, false, not, arith, ap, zero, suc}
use Rattle.std.specs.List.{list_any}
use Rattle.std.proofs.lemmas.Bool.{eqb-true, false_from_ne_true}
use Rattle.std.proofs.lemmas.Cmp.{nat_eq_equiv}
use Rattle.so_lists.proofs.Any.{any-each_below, none-each_below, none-next}
use Rattle.so_ids.specs.declared.AgentId.{AgentId}
use Rattle.so_scene.specs.Parts.{agents_from}
use Rattle.so_mbox.specs.Table.{same_agent, is_none_of}

nth : AgentId → ℕ → AgentId
nth first k = record { 0 = first.0 + k }

one_there : (a first : AgentId) → first.0 ≤ a.0 → same_agent a (nth first (a.0 - first.0)) ≡ true
unfolding nth
one_there a first l = let e : first.0 + (a.0 - first.0) ≡ a.0 = omega (arith, l) in rw e (nat_eq_equiv.refl a.0)

none_there : (a first : AgentId) (n : ℕ) → (first.0 ≤ a.0 → n ≤ a.0 - first.0) → list_any (same_agent a) (agents_from first n) ≡ false
none_there a first zero l = none-each_below (same_agent a) (λ k. record { 0 = first.0 + k })
none_there a first (suc n) l =
    let before = none_there a first n (λ m. let k = l m in omega (arith, k)) in
    let here : same_agent a (record { 0 = first.0 + n }) ≡ false = false_from_ne_true _ (λ t. let e : a.0 ≡ first.0 + n = eqb-true a.0 (first.0 + n) t in let k = l (omega (arith, e)) in omega (arith, k, e)) in
    let more : suc n ≡ n + 1 = omega arith in
    rw more (none-next (same_agent a) (λ k. record { 0 = first.0 + k }) n before here)

pub is_none : (a first : AgentId) (n : ℕ) → (first.0 ≤ a.0 → n ≤ a.0 - first.0) → is_none_of (agents_from first n) a ≡ true
is_none a first n l = ap not (none_there a first n l)

pub is_one : (a first : AgentId) (n : ℕ) → first.0 ≤ a.0 → a.0 - first.0 < n → is_none_of (agents_from first n) a ≡ false
unfolding nth
is_one a first n l m = ap not (any-each_below (same_agent a) (λ k. record { 0 = first.0 + k }) n (a.0 - first.0) m (one_there a first l))
