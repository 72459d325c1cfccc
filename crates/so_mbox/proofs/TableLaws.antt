-- What a table keeps through each change.
use Rattle.std.proofs.Common.{◌≡◌, ℕ, zero, suc, ◌<◌, ◌≤◌, List, [], ◌∷◌, ◌++◌, length, map, get_or, Bool, true, false, ◌||◌, cond, arith, refl, ◌∙◌, ap, inl, inr, get_or-set_same, get_or-set_other}
use Rattle.std.specs.Prelude.{slice_set, zip}
use Rattle.std.specs.Cmp.{IsEquivalence}
use Rattle.std.specs.List.{All, AllByRecursion, IsDistinct, filter, list_any}
use Rattle.std.proofs.Math.Dec.{eqb}
use Rattle.std.proofs.Math.ListN.{get_or-map}
use Rattle.std.proofs.lemmas.Bool.{cases_eq, eqb-true}
use Rattle.std.proofs.lemmas.Cmp.{nat_eq_equiv}
use Rattle.std.proofs.lemmas.List.{length-set, length-map, length-replicate, length_push}
use Rattle.std.proofs.lemmas.List.Elements.{All-push, All-filter, All-nil, recursion_from_All}
use Rattle.std.proofs.lemmas.Slice.Zip.{length-zip}
use Rattle.std.proofs.lemmas.Map.Keys.{IsDistinct-head, IsDistinct-tail, IsDistinct-cons, IsDistinct-push}
use Rattle.std.proofs.lemmas.Map.Steps.{length-le_from_distinct_below}
use Rattle.so_lists.proofs.Filters.{each-filter}
use Rattle.so_ids.specs.declared.AgentId.{AgentId}
use Rattle.so_ids.specs.declared.FilterId.{FilterId}
use Rattle.so_scene.specs.declared.parts.FilterDef.{FilterDef}
use Rattle.so_scene.specs.declared.parts.SceneParts.{SceneParts}
use Rattle.so_scene.specs.Parts.{no_agent, rows_of, filters_of}
use Rattle.so_scene.specs.Subscriptions.{rows_first, is_active_first, stays_beside, filter_at, filter_set, filters_first}
use Rattle.so_mbox.proofs.FlagLaws.{length-filters_first}
use Rattle.so_mbox.specs.Table.{Subscriptions, IsTable, IsAgentOf, same_agent, is_other, is_entered, active_filters, all_none, all_filters_first, nobody, none_active, with_rows, with_filters, with_order, after_enter, after_leave, after_set_filter}

-- ---- nobody is registered twice

pub agents-laws : IsEquivalence same_agent
agents-laws = record {
  refl = λ a. nat_eq_equiv.refl a.0;
  symm = λ a b. nat_eq_equiv.symm a.0 b.0;
  congr = λ a b d. nat_eq_equiv.congr a.0 b.0 d.0;
}

abbrev pub number_of : AgentId → ℕ
number_of a = a.0

each-number : (a : AgentId) (agents : List AgentId) → AllByRecursion (λ b. same_agent a b ≡ false) agents → AllByRecursion (λ n. eqb a.0 n ≡ false) (map number_of agents)
each-number a [] e = tt
each-number a (b ∷ agents) e = (e.0, each-number a agents e.1)

numbers-distinct : (agents : List AgentId) → IsDistinct same_agent agents → IsDistinct eqb (map number_of agents)
unfolding IsDistinct
numbers-distinct [] d = tt
numbers-distinct (a ∷ agents) d = (each-number a agents d.0, numbers-distinct agents d.1)

below_case : (n q : ℕ) (a : AgentId) (b : Bool) (more : Bool) → eqb q a.0 ≡ b → a.0 < n → (more ≡ true → q < n) → (b || more) ≡ true → q < n
below_case n q a true more t e f h = let same : q ≡ a.0 = eqb-true q a.0 t in rw same e
below_case n q a false more t e f h = f h

member_below : (n q : ℕ) (agents : List AgentId) → AllByRecursion (λ a. a.0 < n) agents → list_any (eqb q) (map number_of agents) ≡ true → q < n
member_below n q [] e h = cc
member_below n q (a ∷ agents) e h = below_case n q a (eqb q a.0) (list_any (eqb q) (map number_of agents)) refl e.0 (member_below n q agents e.1) h

pub few_agents : (s : SceneParts) (agents : List AgentId) → All (IsAgentOf s) agents → IsDistinct same_agent agents → length agents ≤ length s.agents
few_agents s agents all once =
    let bound = length-le_from_distinct_below (map number_of agents) (length s.agents) (numbers-distinct agents once) (λ q h. member_below (length s.agents) q agents (recursion_from_All (IsAgentOf s) agents all) h) in
    omega (arith, bound, length-map agents number_of)

-- one more
pub once-push : (agents : List AgentId) (a : AgentId) → IsDistinct same_agent agents → list_any (same_agent a) agents ≡ false → IsDistinct same_agent (agents ++ a ∷ [])
once-push agents a d new = IsDistinct-push agents-laws agents a d new

pub few_entered : (t : Subscriptions) → IsTable t → length t.order ≤ length t.scene.agents
few_entered t k = few_agents t.scene t.order k.agents k.once

pub room_for : (s : SceneParts) (agents : List AgentId) (a : AgentId) → All (IsAgentOf s) agents → IsDistinct same_agent agents → IsAgentOf s a → list_any (same_agent a) agents ≡ false → length agents < length s.agents
room_for s agents a all once within new =
    let more = few_agents s (agents ++ a ∷ []) (All-push (IsAgentOf s) agents a all within) (once-push agents a once new) in
    omega (arith, more, length_push agents a)

pub room_in : (t : Subscriptions) (a : AgentId) → IsTable t → IsAgentOf t.scene a → is_entered t a ≡ false → length t.order < length t.scene.agents
room_in t a k within new = room_for t.scene t.order a k.agents k.once within new

-- fewer
cond_distinct : (b : Bool) (a : AgentId) (agents : List AgentId) → AllByRecursion (λ x. same_agent a x ≡ false) agents → IsDistinct same_agent agents → IsDistinct same_agent (cond b (a ∷ agents) agents)
cond_distinct true a agents e d = IsDistinct-cons same_agent a agents e d
cond_distinct false a agents e d = d

pub once-filter : (p : AgentId → Bool) (agents : List AgentId) → IsDistinct same_agent agents → IsDistinct same_agent (filter p agents)
once-filter p [] d = d
once-filter p (a ∷ agents) d =
    cond_distinct (p a) a (filter p agents) (each-filter (λ x. same_agent a x ≡ false) p agents (IsDistinct-head same_agent a agents d)) (once-filter p agents (IsDistinct-tail same_agent a agents d))

-- ---- the lengths of the flags

pub length-filter_set : (filters : List FilterDef) (k : ℕ) (flags : List Bool) → length flags ≡ length filters → length (filter_set filters k flags) ≡ length filters
length-filter_set filters k flags e =
    length-set _ k true ∙ (length-map (zip filters flags) (stays_beside (filter_at filters k)) ∙ (let z = length-zip filters flags in omega (arith, z)))

-- what stands at a number of the list
pub flags_at : (lists : List (List Bool)) (i : ℕ) (flags : List Bool) → i < length lists → flags ≡ get_or lists i flags → flags ≡ get_or lists i []
flags_at [] i flags l e = absurd (omega arith)
flags_at (x ∷ lists) zero flags l e = e
flags_at (x ∷ lists) (suc i) flags l e = flags_at lists i flags (omega arith) e

-- one list of a list is another
each-set : (size : ℕ → ℕ) (lists : List (List Bool)) (i : ℕ) (flags : List Bool) → i < length lists → length flags ≡ size i → ((j : ℕ) → length (get_or lists j []) ≡ size j) →
    (j : ℕ) → length (get_or (slice_set lists i flags) j []) ≡ size j
each-set size lists i flags l e each j =
    elim (cases_eq j i) [
      | inl same ↦ rw (same, get_or-set_same lists i flags [] l) e
      | inr other ↦ rw (get_or-set_other lists i j flags [] other) (each j)
    ]

-- ---- each change

pub kept-rows : (t : Subscriptions) (a : AgentId) (flags : List Bool) → IsTable t → IsAgentOf t.scene a → length flags ≡ length (rows_of t.scene a) → IsTable (with_rows a flags t)
kept-rows t a flags k within e = record {
  rows = length-set t.rows a.0 flags ∙ k.rows;
  filters = k.filters;
  each_row = λ b. each-set (λ j. length (rows_of t.scene (record { 0 = j }))) t.rows a.0 flags (omega (arith, k.rows)) e (λ j. k.each_row (record { 0 = j })) b.0;
  each_filter = k.each_filter;
  agents = k.agents;
  once = k.once;
}

pub kept-filters : (t : Subscriptions) (a : AgentId) (flags : List Bool) → IsTable t → IsAgentOf t.scene a → length flags ≡ length (filters_of t.scene a) → IsTable (with_filters a flags t)
kept-filters t a flags k within e = record {
  rows = k.rows;
  filters = length-set t.filters a.0 flags ∙ k.filters;
  each_row = k.each_row;
  each_filter = λ b. each-set (λ j. length (filters_of t.scene (record { 0 = j }))) t.filters a.0 flags (omega (arith, k.filters)) e (λ j. k.each_filter (record { 0 = j })) b.0;
  agents = k.agents;
  once = k.once;
}

pub kept-order : (t : Subscriptions) (agents : List AgentId) → IsTable t → All (IsAgentOf t.scene) agents → IsDistinct same_agent agents → IsTable (with_order agents t)
kept-order t agents k all once = record { rows = k.rows; filters = k.filters; each_row = k.each_row; each_filter = k.each_filter; agents = all; once = once }

pub kept-enter : (t : Subscriptions) (a : AgentId) → IsTable t → IsAgentOf t.scene a → is_entered t a ≡ false → IsTable (after_enter a t)
kept-enter t a k within new =
    let filters = kept-filters t a (filters_first (filters_of t.scene a)) k within (length-filters_first (filters_of t.scene a)) in
    let rows = kept-rows (with_filters a (filters_first (filters_of t.scene a)) t) a (rows_first (rows_of t.scene a)) filters within (length-map (rows_of t.scene a) is_active_first) in
    kept-order (with_rows a (rows_first (rows_of t.scene a)) (with_filters a (filters_first (filters_of t.scene a)) t)) (t.order ++ a ∷ []) rows (All-push (IsAgentOf t.scene) t.order a k.agents within) (once-push t.order a k.once new)

pub kept-leave : (t : Subscriptions) (a : AgentId) → IsTable t → IsAgentOf t.scene a → IsTable (after_leave a t)
kept-leave t a k within =
    kept-order (with_rows a (none_active (rows_of t.scene a)) t) (filter (is_other a) t.order)
    (kept-rows t a (none_active (rows_of t.scene a)) k within (length-replicate (length (rows_of t.scene a)) false))
    (All-filter (is_other a) (IsAgentOf t.scene) t.order k.agents) (once-filter (is_other a) t.order k.once)

pub kept-set_filter : (t : Subscriptions) (a : AgentId) (f : FilterId) → IsTable t → IsAgentOf t.scene a → IsTable (after_set_filter a f t)
kept-set_filter t a f k within = kept-filters t a (filter_set (filters_of t.scene a) f.0 (active_filters t a)) k within (length-filter_set (filters_of t.scene a) f.0 (active_filters t a) (k.each_filter a))

pub kept-nobody : (s : SceneParts) → IsTable (nobody s)
unfolding IsDistinct
kept-nobody s = record {
  rows = length-map s.agents all_none;
  filters = length-map s.agents all_filters_first;
  each_row = λ a. ap length (get_or-map all_none s.agents a.0 no_agent) ∙ length-replicate (length (rows_of s a)) false;
  each_filter = λ a. ap length (get_or-map all_filters_first s.agents a.0 no_agent) ∙ length-filters_first (filters_of s a);
  agents = All-nil (IsAgentOf s);
  once = tt;
}
