-- Agents that leave one after the other: what the table is then.
use Rattle.std.proofs.Common.{◌≡◌, ℕ, ◌+◌, ◌<◌, ◌≤◌, List, [], ◌∷◌, ◌++◌, length, get_or, replicate, Bool, false, arith, refl, sym, ◌∙◌, ap}
use Rattle.std.specs.Prelude.{slice_set}
use Rattle.std.specs.List.{AllByRecursion, filter}
use Rattle.so_lists.proofs.EachBelow.{each_below-next, each_below-none, all-each_below}
use Rattle.so_ids.specs.declared.AgentId.{AgentId}
use Rattle.so_scene.specs.declared.parts.SceneParts.{SceneParts}
use Rattle.so_scene.specs.Parts.{agents_from}
use Rattle.so_mbox.specs.Table.{Subscriptions, IsTable, IsAgentOf, is_none_of, cleared, after_leave, departed}
use Rattle.so_mbox.proofs.BoardLaws.{nth_from, there}
use Rattle.so_mbox.proofs.CandidateLaws.{scene-departed}
use Rattle.so_mbox.proofs.OrderLaws.{order-departed}
use Rattle.so_mbox.proofs.TableLaws.{kept-leave}

pub kept-departed : (agents : List AgentId) (t : Subscriptions) → IsTable t → AllByRecursion (IsAgentOf t.scene) agents → IsTable (departed agents t)
kept-departed [] t k all = k
kept-departed (a ∷ agents) t k all = kept-departed agents (after_leave a t) (kept-leave t a k all.0) all.1

rows-departed : (agents : List AgentId) (t : Subscriptions) → IsTable t → AllByRecursion (IsAgentOf t.scene) agents → (departed agents t).rows ≡ cleared agents t.rows
rows-departed [] t k all = refl
rows-departed (a ∷ agents) t k all =
    rows-departed agents (after_leave a t) (kept-leave t a k all.0) all.1 ∙
    ap (λ n. cleared agents (slice_set t.rows a.0 (replicate n false))) (sym (k.each_row a))

filters-departed : (agents : List AgentId) (t : Subscriptions) → (departed agents t).filters ≡ t.filters
filters-departed [] t = refl
filters-departed (a ∷ agents) t = filters-departed agents (after_leave a t)

same_table : (s s' : SceneParts) (o o' : List AgentId) (r r' f f' : List (List Bool)) → s ≡ s' → o ≡ o' → r ≡ r' → f ≡ f' → (let T : Subscriptions = record { scene = s; order = o; rows = r; filters = f } in T) ≡ record { scene = s'; order = o'; rows = r'; filters = f' }
same_table s s' o o' r r' f f' a b c d = rw (a, b, c, d) refl

pub departed-is : (agents : List AgentId) (t : Subscriptions) → IsTable t → AllByRecursion (IsAgentOf t.scene) agents →
    departed agents t ≡ record { scene = t.scene; order = filter (is_none_of agents) t.order; rows = cleared agents t.rows; filters = t.filters }
departed-is agents t k all = same_table _ _ _ _ _ _ _ _ (scene-departed agents t) (order-departed agents t) (rows-departed agents t k all) (filters-departed agents t)

pub all_agents : (s : SceneParts) (first : AgentId) (n : ℕ) → first.0 + n ≤ length s.agents → AllByRecursion (IsAgentOf s) (agents_from first n)
all_agents s first n l = all-each_below (IsAgentOf s) (nth_from first) n (λ i m. omega (arith, l, m))

one_agent : (a : AgentId) → agents_from a 1 ≡ a ∷ []
one_agent a =
    let first : a.0 + 0 ≡ a.0 = omega arith in
    each_below-next (nth_from a) 0 ∙ (ap (λ agents. agents ++ nth_from a 0 ∷ []) (each_below-none (nth_from a)) ∙ ap (λ n. (let b : AgentId = record { 0 = n } in b) ∷ []) first)

pub departed-one : (a : AgentId) (t : Subscriptions) → departed (agents_from a 1) t ≡ after_leave a t
departed-one a t = ap (λ agents. departed agents t) (one_agent a)

-- ---- flag by flag

cleared-push : (agents : List AgentId) (a : AgentId) (lists : List (List Bool)) → cleared (agents ++ a ∷ []) lists ≡ slice_set (cleared agents lists) a.0 (replicate (length (get_or (cleared agents lists) a.0 [])) false)
cleared-push [] a lists = refl
cleared-push (b ∷ agents) a lists = cleared-push agents a (slice_set lists b.0 (replicate (length (get_or lists b.0 [])) false))

pub cleared-none : (first : AgentId) (lists : List (List Bool)) → lists ≡ cleared (agents_from first 0) lists
cleared-none first lists = sym (ap (λ agents. cleared agents lists) (each_below-none (nth_from first)))

pub cleared-next : (first : AgentId) (k : ℕ) (lists now : List (List Bool)) (flags : List Bool) → first.0 + k < length now → now ≡ cleared (agents_from first k) lists → flags ≡ get_or now (first.0 + k) flags →
    slice_set now (first.0 + k) (replicate (length flags) false) ≡ cleared (agents_from first (k + 1)) lists
cleared-next first k lists now flags l e is =
    ap (λ n. slice_set now (first.0 + k) (replicate n false)) (ap length (there now (first.0 + k) flags [] l is)) ∙
    (ap (λ xs. slice_set xs (first.0 + k) (replicate (length (get_or xs (first.0 + k) [])) false)) e ∙
    (sym (cleared-push (agents_from first k) (nth_from first k) lists) ∙ ap (λ agents. cleared agents lists) (sym (each_below-next (nth_from first) k))))
