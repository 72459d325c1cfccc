-- The agents of a scene are those of its cooperations, one cooperation after the other.
use Rattle.std.proofs.Common.{◌≡◌, ℕ, ◌+◌, ◌-◌, ◌<◌, ◌≤◌, suc, zero, List, [], ◌∷◌, ◌++◌, length, get_or, take, drop, refl, sym, ap, ◌∙◌, subst, arith}
use Rattle.std.specs.List.{All, AllByRecursion}
use Rattle.std.proofs.lemmas.List.{drop-drop, get_or-drop, get_or-take, get_or_default, length-drop, length-take-le, take-append-drop}
use Rattle.so_scene.specs.declared.parts.AgentDef.{AgentDef}
use Rattle.so_scene.specs.declared.parts.CoopDef.{CoopDef}
use Rattle.so_scene.specs.declared.parts.SceneParts.{SceneParts}
use Rattle.so_scene.specs.Checked.{IsScene, IsCoop, IsMember, AreConsecutive}
use Rattle.so_scene.specs.Lanes.{agent_number}
use Rattle.so_scene.specs.Parts.{no_agent, no_coop}
use Rattle.so_scene_data.specs.Canonical.{agents_of}
use Rattle.so_scene_data.proofs.Named.{each_of}
use Rattle.so_scene_data.proofs.ActLaws.{Told}

-- ---- ranges of numbers that follow one another

ends : (from to : ℕ) (coops : List CoopDef) → AreConsecutive from to coops → from ≤ to
ends from to [] h = let same : from ≡ to = h in omega arith
ends from to (c ∷ coops) h = let l : from + c.count ≤ to = ends (from + c.count) to coops h.1 in omega arith

begins : (from to : ℕ) (coops : List CoopDef) (k : ℕ) → k < length coops → AreConsecutive from to coops → from ≤ (get_or coops k no_coop).first.0
begins from to [] k l h = absurd (omega arith)
begins from to (c ∷ coops) zero l h = let first : c.first.0 ≡ from = h.0 in omega arith
begins from to (c ∷ coops) (suc k) l h = let m : from + c.count ≤ (get_or coops k no_coop).first.0 = begins (from + c.count) to coops k (omega arith) h.1 in omega arith

-- no later one has a number of the first
apart : (from to n : ℕ) (c : CoopDef) (coops : List CoopDef) (k : ℕ) → k < length coops → AreConsecutive from to (c ∷ coops) → IsMember c (agent_number n) → IsMember (get_or coops k no_coop) (agent_number n) → ⊥
apart from to n c coops k l h p q =
    let b : from + c.count ≤ (get_or coops k no_coop).first.0 = begins (from + c.count) to coops k l h.1 in
    let first : c.first.0 ≡ from = h.0 in
    let up : n < c.first.0 + c.count = p.1 in
    let down : (get_or coops k no_coop).first.0 ≤ n = q.0 in
    absurd (omega arith)

-- a number stands in one range
one_range : (from to n : ℕ) (coops : List CoopDef) (j k : ℕ) → j < length coops → k < length coops → AreConsecutive from to coops → IsMember (get_or coops j no_coop) (agent_number n) → IsMember (get_or coops k no_coop) (agent_number n) → j ≡ k
one_range from to n [] j k l m h p q = absurd (omega arith)
one_range from to n (c ∷ coops) zero zero l m h p q = refl
one_range from to n (c ∷ coops) zero (suc k) l m h p q = absurd (apart from to n c coops k (omega arith) h p q)
one_range from to n (c ∷ coops) (suc j) zero l m h p q = absurd (apart from to n c coops j (omega arith) h q p)
one_range from to n (c ∷ coops) (suc j) (suc k) l m h p q = ap suc (one_range (from + c.count) to n coops j k (omega arith) (omega arith) h.1 p q)

-- ---- the agents of one cooperation

abbrev pub IsOf : ℕ → AgentDef → Type 0
IsOf k a = a.coop.0 ≡ k

-- what is known of a cooperation
pub record IsCoopOf (s : SceneParts) (c : CoopDef) : Type 0 where
  pub coop : IsCoop s c
  pub told : AllByRecursion (Told s) (agents_of s c)

-- the cooperation of number k, whose agents begin at a number
pub record IsBlock (s : SceneParts) (k from : ℕ) (c : CoopDef) : Type 0 where
  pub is : IsCoopOf s c
  pub first : c.first.0 ≡ from
  pub count : length (agents_of s c) ≡ c.count
  pub own : AllByRecursion (IsOf k) (agents_of s c)
  pub split : drop from s.agents ≡ agents_of s c ++ drop (from + c.count) s.agents

-- cooperations that have all agents from a number on
abbrev pub AreBlocks : SceneParts → ℕ → ℕ → List CoopDef → Type 0
AreBlocks s k from [] = from ≡ length s.agents
AreBlocks s k from (c ∷ coops) = IsBlock s k from c × AreBlocks s (suc k) (from + c.count) coops

each_drop : {X : Type 0} (P : X → Type 0) (n : ℕ) (xs : List X) → AllByRecursion P xs → AllByRecursion P (drop n xs)
each_drop P zero xs h = h
each_drop P (suc n) [] h = tt
each_drop P (suc n) (x ∷ xs) h = each_drop P n xs h.1

each_take : {X : Type 0} (P : X → Type 0) (n : ℕ) (xs : List X) → AllByRecursion P xs → AllByRecursion P (take n xs)
each_take P zero xs h = tt
each_take P (suc n) [] h = tt
each_take P (suc n) (x ∷ xs) h = (h.0, each_take P n xs h.1)

-- an agent of a number in the range of cooperation k
own_at : (s : SceneParts) (k n : ℕ) (c : CoopDef) (d : AgentDef) → IsScene s → k < length s.coops → get_or s.coops k no_coop ≡ c → n < length s.agents → IsMember c (agent_number n) → IsOf k (get_or s.agents n d)
own_at s k n c d h l here m own =
    let same : get_or s.agents n d ≡ get_or s.agents n no_agent = get_or_default s.agents n d no_agent m in
    ap (λ (a : AgentDef). a.coop.0) same
    ∙ one_range 0 (length s.agents) n s.coops (get_or s.agents n no_agent).coop.0 k (h.agents n no_agent m).coop l h.consecutive (h.members (agent_number n) m) (subst (λ (x : CoopDef). IsMember x (agent_number n)) (sym here) own)

own_each : (s : SceneParts) (k : ℕ) (c : CoopDef) → IsScene s → k < length s.coops → get_or s.coops k no_coop ≡ c → c.first.0 + c.count ≤ length s.agents → length (agents_of s c) ≡ c.count → All (IsOf k) (agents_of s c)
own_each s k c h l here few count i d m =
    let below : i < c.count = omega arith in
    let at : get_or (agents_of s c) i d ≡ get_or s.agents (c.first.0 + i) d = get_or-take c.count (drop c.first.0 s.agents) i d below ∙ get_or-drop c.first.0 s.agents i d in
    ap (λ (a : AgentDef). a.coop.0) at ∙ own_at s k (c.first.0 + i) c d h l here (omega arith) (omega arith, omega arith)

block : (s : SceneParts) (k from : ℕ) (c : CoopDef) → IsScene s → AllByRecursion (Told s) s.agents → k < length s.coops → get_or s.coops k no_coop ≡ c → IsCoop s c → c.first.0 ≡ from → from + c.count ≤ length s.agents → IsBlock s k from c
block s k from c h t l here is first few =
    let left : length (drop c.first.0 s.agents) ≡ length s.agents - c.first.0 = length-drop c.first.0 s.agents in
    let count : length (agents_of s c) ≡ c.count = length-take-le c.count (drop c.first.0 s.agents) (omega arith) in
    record {
      is = record { coop = is; told = each_take (Told s) c.count (drop c.first.0 s.agents) (each_drop (Told s) c.first.0 s.agents t) };
      first = first;
      count = count;
      own = each_of (IsOf k) (agents_of s c) (own_each s k c h l here (omega arith) count);
      split = sym (take-append-drop c.count (drop from s.agents)) ∙ (ap (λ n. take c.count (drop n s.agents) ++ drop c.count (drop from s.agents)) (sym first) ∙ ap (λ (more : List AgentDef). agents_of s c ++ more) (drop-drop c.count from s.agents));
    }

-- ---- all cooperations

-- the cooperations from number k on
abbrev AreFrom : ℕ → List CoopDef → List CoopDef → Type 0
AreFrom k coops all = (j : ℕ) → get_or coops j no_coop ≡ get_or all (k + j) no_coop

here_first : (k : ℕ) (c : CoopDef) (coops all : List CoopDef) → AreFrom k (c ∷ coops) all → get_or all k no_coop ≡ c
here_first k c coops all from = let same : k ≡ k + 0 = omega arith in ap (λ n. get_or all n no_coop) same ∙ sym (from 0)

from_next : (k : ℕ) (c : CoopDef) (coops all : List CoopDef) → AreFrom k (c ∷ coops) all → AreFrom (suc k) coops all
from_next k c coops all from = λ j. let same : k + suc j ≡ suc k + j = omega arith in from (suc j) ∙ ap (λ n. get_or all n no_coop) same

from_start : (coops : List CoopDef) → AreFrom 0 coops coops
from_start coops = λ j. let same : j ≡ 0 + j = omega arith in ap (λ n. get_or coops n no_coop) same

blocks_from : (s : SceneParts) (k from : ℕ) (coops : List CoopDef) → IsScene s → AllByRecursion (Told s) s.agents → k + length coops ≡ length s.coops → AreFrom k coops s.coops → AllByRecursion (IsCoop s) coops → AreConsecutive from (length s.agents) coops → AreBlocks s k from coops
blocks_from s k from [] h t e at is c = c
blocks_from s k from (x ∷ coops) h t e at is c = (
  block s k from x h t (omega arith) (here_first k x coops s.coops at) is.0 c.0 (ends (from + x.count) (length s.agents) coops c.1),
  blocks_from s (suc k) (from + x.count) coops h t (omega arith) (from_next k x coops s.coops at) is.1 c.1,
)

pub blocks : (s : SceneParts) → IsScene s → AllByRecursion (Told s) s.agents → AreBlocks s 0 0 s.coops
blocks s h t = blocks_from s 0 0 s.coops h t (omega arith) (from_start s.coops) (each_of (IsCoop s) s.coops h.coops) h.consecutive

pub each_coop : (s : SceneParts) (k from : ℕ) (coops : List CoopDef) → AreBlocks s k from coops → AllByRecursion (IsCoopOf s) coops
each_coop s k from [] b = tt
each_coop s k from (c ∷ coops) b = (b.0.is, each_coop s (suc k) (from + c.count) coops b.1)
