-- The agents of cooperations are agents of the scene, each of its own cooperation alone.
use Rattle.std.proofs.Common.{◌≡◌, ℕ, zero, suc, ◌+◌, ◌-◌, ◌<◌, ◌≤◌, List, [], ◌∷◌, length, get_or, Bool, true, false, arith, inl, inr, refl, sym, ◌∙◌, ap, subst}
use Rattle.std.specs.Prelude.{◌==◌}
use Rattle.std.specs.List.{list_any, AllByRecursion, IsDistinct}
use Rattle.std.proofs.lemmas.Bool.{cases_lt, eq-eqb, eqb-true, ne_eqb, false≢true}
use Rattle.std.proofs.lemmas.List.{get_or_past}
use Rattle.so_ids.specs.declared.AgentId.{AgentId}
use Rattle.so_ids.specs.declared.CoopId.{CoopId}
use Rattle.so_lists.specs.Lists.{each_below}
use Rattle.so_lists.proofs.Any.{any-each_below}
use Rattle.so_lists.proofs.Distinct.{passes_none, distinct-each_below}
use Rattle.so_lists.proofs.EachBelow.{all-each_below}
use Rattle.so_lists.proofs.Filters.{each-weaker}
use Rattle.so_scene.specs.declared.parts.CoopDef.{CoopDef}
use Rattle.so_scene.specs.declared.parts.SceneParts.{SceneParts}
use Rattle.so_scene.specs.Parts.{no_agent, no_coop, agent_of, coop_of, agents_of}
use Rattle.so_scene.specs.Checked.{AreConsecutive, IsMember, IsScene}

-- cooperations whose agents follow one another have no more than these, and none beyond them
no_more : (from to : ℕ) (coops : List CoopDef) → AreConsecutive from to coops → from ≤ to
no_more from to [] is = omega (arith, is)
no_more from to (c ∷ coops) is = omega (arith, no_more (from + c.count) to coops is.1)

within : (from to : ℕ) (coops : List CoopDef) (k : ℕ) → k < length coops → AreConsecutive from to coops → (get_or coops k no_coop).first.0 + (get_or coops k no_coop).count ≤ to
within from to [] k l is = absurd (omega arith)
within from to (c ∷ coops) zero l is = omega (arith, is.0, no_more (from + c.count) to coops is.1)
within from to (c ∷ coops) (suc k) l is = within (from + c.count) to coops k (omega arith) is.1

pub coop_within : (s : SceneParts) (c : CoopId) → IsScene s → c.0 < length s.coops → (coop_of s c).first.0 + (coop_of s c).count ≤ length s.agents
coop_within s c scene l = within 0 (length s.agents) s.coops c.0 l scene.consecutive

in_range : (s : SceneParts) (c : CoopDef) → c.first.0 + c.count ≤ length s.agents → AllByRecursion (λ (a : AgentId). a.0 < length s.agents) (each_below (λ k. record { 0 = c.first.0 + k }) c.count)
in_range s c is = all-each_below (λ (a : AgentId). a.0 < length s.agents) (λ k. record { 0 = c.first.0 + k }) c.count (λ i l. omega (arith, is))

none : (s : SceneParts) (c : CoopDef) → c ≡ no_coop → AllByRecursion (λ (a : AgentId). a.0 < length s.agents) (each_below (λ k. record { 0 = c.first.0 + k }) c.count)
none s c is =
    let count : c.count ≡ 0 = ap (λ (d : CoopDef). d.count) is in
    all-each_below (λ (a : AgentId). a.0 < length s.agents) (λ k. record { 0 = c.first.0 + k }) c.count (λ i l. absurd (omega (arith, count)))

pub agents_in_range : (s : SceneParts) (c : CoopId) → IsScene s → AllByRecursion (λ (a : AgentId). a.0 < length s.agents) (agents_of s c)
agents_in_range s c scene =
    elim (cases_lt c.0 (length s.coops)) [
      | inl there ↦ in_range s (coop_of s c) (coop_within s c scene there)
      | inr past ↦ none s (coop_of s c) (get_or_past s.coops c.0 no_coop past)
    ]

-- one that isn't there has no agents
pub no_agents_past : (s : SceneParts) (c : CoopId) → length s.coops ≤ c.0 → agents_of s c ≡ []
unfolding each_below
no_agents_past s c past = rw (get_or_past s.coops c.0 no_coop past) refl

-- ---- each agent is of one cooperation

-- the agents of a cooperation come after those of the ones before it
not_before : (from to : ℕ) (coops : List CoopDef) (k : ℕ) → k < length coops → AreConsecutive from to coops → from ≤ (get_or coops k no_coop).first.0
not_before from to [] k l is = absurd (omega arith)
not_before from to (c ∷ coops) zero l is = omega (arith, is.0)
not_before from to (c ∷ coops) (suc k) l is = omega (arith, not_before (from + c.count) to coops k (omega arith) is.1)

one_after : (from to : ℕ) (coops : List CoopDef) (i j : ℕ) → i < j → j < length coops → AreConsecutive from to coops → (get_or coops i no_coop).first.0 + (get_or coops i no_coop).count ≤ (get_or coops j no_coop).first.0
one_after from to [] i j l m is = absurd (omega arith)
one_after from to (c ∷ coops) i zero l m is = absurd (omega arith)
one_after from to (c ∷ coops) zero (suc j) l m is = omega (arith, is.0, not_before (from + c.count) to coops j (omega arith) is.1)
one_after from to (c ∷ coops) (suc i) (suc j) l m is = one_after (from + c.count) to coops i j (omega arith) (omega arith) is.1

-- whoever is among the agents of a cooperation is of that one
pub its_coop : (s : SceneParts) (c : CoopId) (a : AgentId) → IsScene s → c.0 < length s.coops → a.0 < length s.agents → IsMember (coop_of s c) a → (agent_of s a).coop.0 ≡ c.0
its_coop s c a scene l known is =
    let own : CoopId = (agent_of s a).coop in
    let there : own.0 < length s.coops = (scene.agents a.0 no_agent known).coop in
    let member : IsMember (coop_of s own) a = scene.members a known in
    elim (cases_lt own.0 c.0) [
      | inl before ↦ absurd (omega (arith, one_after 0 (length s.agents) s.coops own.0 c.0 before l scene.consecutive, is.0, member.1))
      | inr after ↦
          elim (cases_lt c.0 own.0) [
            | inl before ↦ absurd (omega (arith, one_after 0 (length s.agents) s.coops c.0 own.0 before there scene.consecutive, is.1, member.0))
            | inr same ↦ omega (arith, after, same)
          ]
    ]

pub agents_are_of : (s : SceneParts) (c : CoopId) → IsScene s → AllByRecursion (λ (a : AgentId). ((agent_of s a).coop.0 == c.0) ≡ true) (agents_of s c)
agents_are_of s c scene =
    elim (cases_lt c.0 (length s.coops)) [
      | inl there ↦
          (let ends = coop_within s c scene there in
          all-each_below (λ (a : AgentId). ((agent_of s a).coop.0 == c.0) ≡ true) (λ k. record { 0 = (coop_of s c).first.0 + k }) (coop_of s c).count
          (λ i l. eq-eqb _ c.0 (its_coop s c (record { 0 = (coop_of s c).first.0 + i }) scene there (omega (arith, ends)) (omega arith, omega arith))))
      | inr past ↦ rw (no_agents_past s c past) tt
    ]

-- and is there
abbrev pub is_agent : AgentId → AgentId → Bool
is_agent a x = a.0 == x.0

own_agent : (s : SceneParts) (c : CoopId) (a : AgentId) → IsMember (coop_of s c) a → list_any (is_agent a) (agents_of s c) ≡ true
own_agent s c a is =
    any-each_below (is_agent a) (λ k. record { 0 = (coop_of s c).first.0 + k }) (coop_of s c).count (a.0 - (coop_of s c).first.0) (omega (arith, is.0, is.1)) (eq-eqb a.0 _ (omega (arith, is.0)))

other_agent : (s : SceneParts) (c : CoopId) (a : AgentId) → IsScene s → ((agent_of s a).coop.0 == c.0) ≡ false → list_any (is_agent a) (agents_of s c) ≡ false
other_agent s c a scene other =
    passes_none (is_agent a) (agents_of s c)
    (each-weaker (λ (x : AgentId). ((agent_of s x).coop.0 == c.0) ≡ true) (λ x. is_agent a x ≡ false)
    (λ x is. ne_eqb a.0 x.0 (λ same. false≢true (sym other ∙ (ap (λ n. (agent_of s (record { 0 = n })).coop.0 == c.0) same ∙ is))))
    (agents_of s c) (agents_are_of s c scene))

among_case : (s : SceneParts) (c : CoopId) (a : AgentId) (b : Bool) → IsScene s → a.0 < length s.agents → ((agent_of s a).coop.0 == c.0) ≡ b → list_any (is_agent a) (agents_of s c) ≡ b
among_case s c a true scene known is =
    let own : (agent_of s a).coop ≡ c = ap (λ n. record { 0 = n }) (eqb-true (agent_of s a).coop.0 c.0 is) in
    own_agent s c a (subst (λ x. IsMember (coop_of s x) a) own (scene.members a known))
among_case s c a false scene known is = other_agent s c a scene is

-- an agent of the scene is among the agents of its own cooperation alone
pub among_agents : (s : SceneParts) (c : CoopId) (a : AgentId) → IsScene s → a.0 < length s.agents → list_any (is_agent a) (agents_of s c) ≡ ((agent_of s a).coop.0 == c.0)
among_agents s c a scene known = among_case s c a ((agent_of s a).coop.0 == c.0) scene known refl

-- and stands there once
pub agents_once : (s : SceneParts) (c : CoopId) → IsDistinct is_agent (agents_of s c)
agents_once s c = distinct-each_below is_agent (λ k. record { 0 = (coop_of s c).first.0 + k }) (coop_of s c).count (λ i j l m. ne_eqb _ _ (λ same. omega (arith, l, same)))
