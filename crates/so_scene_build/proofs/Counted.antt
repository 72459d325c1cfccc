-- Each agent that is added is one of the last cooperation, which has one agent more.
use Rattle.std.proofs.Common.{◌≡◌, ℕ, zero, suc, ◌+◌, ◌<◌, List, [], ◌∷◌, ◌++◌, length, map, false, refl, ap, ◌∙◌, subst, arith, length-append}
use Rattle.std.proofs.lemmas.Bool.{true≢false}
use Rattle.std.specs.Prelude.{slice_index_or, slice_set, min, ◌-◌}
use Rattle.std.specs.List.{AllByRecursion}
use Rattle.so_ids.specs.declared.AgentId.{AgentId}
use Rattle.so_lists.specs.Lists.{is_empty}
use Rattle.so_scene.specs.Checked.{AreConsecutive, IsMember}
use Rattle.so_scene.specs.Lanes.{agent_number}
use Rattle.so_scene.specs.Parts.{coop_name, no_coop}
use Rattle.so_scene.specs.declared.parts.AgentDef.{AgentDef}
use Rattle.so_scene.specs.declared.parts.CoopDef.{CoopDef}
use Rattle.so_scene_build.specs.Build.{one_more}
use Rattle.so_scene_build.specs.Kept.{AreMembers, AreCounted}
use Rattle.so_scene_fields.specs.Visits.{narrow}

-- ---- one agent more in the last cooperation

pub length_more : (coops : List CoopDef) → length (one_more coops) ≡ length coops
unfolding one_more
length_more [] = refl
length_more (c ∷ []) = refl
length_more (c ∷ d ∷ coops) = omega (arith, length_more (d ∷ coops))

pub names_same : (coops : List CoopDef) → map coop_name (one_more coops) ≡ map coop_name coops
unfolding one_more
names_same [] = refl
names_same (c ∷ []) = refl
names_same (c ∷ d ∷ coops) = ap (λ (names : List (List ℕ)). c.name ∷ names) (names_same (d ∷ coops))

-- what holds of each whatever its count
pub each_counted : (P : CoopDef → Type 0) → ((c : CoopDef) (n : ℕ) → P c → P (record c { count = n })) → (coops : List CoopDef) → AllByRecursion P coops → AllByRecursion P (one_more coops)
unfolding one_more
each_counted P h [] a = tt
each_counted P h (c ∷ []) a = (h c _ a.0, tt)
each_counted P h (c ∷ d ∷ coops) a = (a.0, each_counted P h (d ∷ coops) a.1)

-- ---- consecutive agents

pub consecutive_push : (coops : List CoopDef) (c : CoopDef) (from to : ℕ) → c.first.0 ≡ to → c.count ≡ 0 → AreConsecutive from to coops → AreConsecutive from to (coops ++ c ∷ [])
consecutive_push [] c from to e f h = (omega (arith, e, h), omega (arith, f, h))
consecutive_push (d ∷ coops) c from to e f h = (h.0, consecutive_push coops c (from + d.count) to e f h.1)

pub consecutive_more : (coops : List CoopDef) (from to : ℕ) → to < 4096 → is_empty coops ≡ false → AreConsecutive from to coops → AreConsecutive from (suc to) (one_more coops)
unfolding one_more
consecutive_more [] from to few e h = absurd (true≢false e)
consecutive_more (c ∷ []) from to few e h = let its : narrow (suc c.count) ≡ suc c.count = omega (arith, few, h.1) in (h.0, omega (arith, its, h.1))
consecutive_more (c ∷ d ∷ coops) from to few e h = (h.0, consecutive_more (d ∷ coops) (from + c.count) to few refl h.1)

-- ---- members

-- what has a member is there
pub member_there : (coops : List CoopDef) (k : ℕ) (a : AgentId) → IsMember (slice_index_or coops k no_coop) a → k < length coops
member_there [] zero a h = absurd (omega (arith, h.1))
member_there [] (suc k) a h = absurd (omega (arith, h.1))
member_there (c ∷ coops) zero a h = omega arith
member_there (c ∷ coops) (suc k) a h = omega (arith, member_there coops k a h)

member_push : (coops more : List CoopDef) (k : ℕ) (a : AgentId) → IsMember (slice_index_or coops k no_coop) a → IsMember (slice_index_or (coops ++ more) k no_coop) a
member_push [] more zero a h = absurd (omega (arith, h.1))
member_push [] more (suc k) a h = absurd (omega (arith, h.1))
member_push (c ∷ coops) more zero a h = h
member_push (c ∷ coops) more (suc k) a h = member_push coops more k a h

members_push : (coops more : List CoopDef) (n : ℕ) (agents : List AgentDef) → AreMembers coops n agents → AreMembers (coops ++ more) n agents
members_push coops more n [] h = tt
members_push coops more n (a ∷ agents) h = (member_push coops more a.coop.0 (agent_number n) h.0, members_push coops more (suc n) agents h.1)

member_more : (coops : List CoopDef) (from to k : ℕ) (a : AgentId) → to < 4096 → AreConsecutive from to coops → IsMember (slice_index_or coops k no_coop) a → IsMember (slice_index_or (one_more coops) k no_coop) a
unfolding one_more
member_more [] from to k a few h m = m
member_more (c ∷ []) from to zero a few h m = let its : narrow (suc c.count) ≡ suc c.count = omega (arith, few, h.1) in (m.0, omega (arith, its, m.1))
member_more (c ∷ []) from to (suc k) a few h m = m
member_more (c ∷ d ∷ coops) from to zero a few h m = m
member_more (c ∷ d ∷ coops) from to (suc k) a few h m = member_more (d ∷ coops) (from + c.count) to k a few h.1 m

members_more : (coops : List CoopDef) (to n : ℕ) (agents : List AgentDef) → to < 4096 → AreConsecutive 0 to coops → AreMembers coops n agents → AreMembers (one_more coops) n agents
members_more coops to n [] few h m = tt
members_more coops to n (a ∷ agents) few h m = (member_more coops 0 to a.coop.0 (agent_number n) few h m.0, members_more coops to (suc n) agents few h m.1)

-- the next agent is one of the last cooperation
last_member : (coops : List CoopDef) (from to k : ℕ) → to < 4096 → suc k ≡ length coops → AreConsecutive from to coops → IsMember (slice_index_or (one_more coops) k no_coop) (agent_number to)
unfolding one_more
last_member [] from to k few e h = absurd (omega (arith, e))
last_member (c ∷ []) from to zero few e h = let its : narrow (suc c.count) ≡ suc c.count = omega (arith, few, h.1) in (omega (arith, h.0, h.1), omega (arith, its, h.0, h.1))
last_member (c ∷ []) from to (suc k) few e h = absurd (omega (arith, e))
last_member (c ∷ d ∷ coops) from to zero few e h = absurd (omega (arith, e))
last_member (c ∷ d ∷ coops) from to (suc k) few e h = last_member (d ∷ coops) (from + c.count) to k few (omega (arith, e)) h.1

member_last : (coops : List CoopDef) (n m : ℕ) (agents : List AgentDef) (a : AgentDef) → m ≡ n + length agents → AreMembers coops n agents → IsMember (slice_index_or coops a.coop.0 no_coop) (agent_number m) → AreMembers coops n (agents ++ a ∷ [])
member_last coops n m [] a e h l = ((omega (arith, e, l.0), omega (arith, e, l.1)), tt)
member_last coops n m (b ∷ agents) a e h l = (h.0, member_last coops (suc n) m agents a (omega (arith, e)) h.1 l)

-- the agent of this number
pub member_at : (coops : List CoopDef) (n m : ℕ) (agents : List AgentDef) (k : ℕ) (default : AgentDef) → m ≡ n + k → k < length agents → AreMembers coops n agents → IsMember (slice_index_or coops (slice_index_or agents k default).coop.0 no_coop) (agent_number m)
member_at coops n m [] k default e l h = absurd (omega (arith, l))
member_at coops n m (a ∷ agents) zero default e l h = (omega (arith, e, h.0.0), omega (arith, e, h.0.1))
member_at coops n m (a ∷ agents) (suc k) default e l h = member_at coops (suc n) m agents k default (omega (arith, e)) (omega (arith, l)) h.1

-- ---- one more cooperation, and one more agent

pub none_counted : AreCounted [] []
none_counted = record { consecutive = refl; members = tt }

pub coop_counted : (coops : List CoopDef) (agents : List AgentDef) (c : CoopDef) → c.first.0 ≡ length agents → c.count ≡ 0 → AreCounted coops agents → AreCounted (coops ++ c ∷ []) agents
coop_counted coops agents c e f h = record { consecutive = consecutive_push coops c 0 (length agents) e f h.consecutive; members = members_push coops (c ∷ []) 0 agents h.members }

pub agent_counted : (coops : List CoopDef) (agents : List AgentDef) (a : AgentDef) → length agents < 4096 → is_empty coops ≡ false → suc a.coop.0 ≡ length coops → AreCounted coops agents → AreCounted (one_more coops) (agents ++ a ∷ [])
agent_counted coops agents a few some e h = record {
  consecutive = (let one : suc (length agents) ≡ length (agents ++ a ∷ []) = omega (arith, length-append agents (a ∷ [])) in subst (λ n. AreConsecutive 0 n (one_more coops)) one (consecutive_more coops 0 (length agents) few some h.consecutive));
  members = member_last (one_more coops) 0 (length agents) agents a (omega arith) (members_more coops (length agents) 0 agents few h.consecutive h.members) (last_member coops 0 (length agents) a.coop.0 few e h.consecutive);
}

-- ---- the last one, by its place

with_count : CoopDef → ℕ → CoopDef
with_count c n = record c { count = n }

set_last : (coops : List CoopDef) (k : ℕ) (x y : CoopDef) (n : ℕ) → suc k ≡ length coops → x ≡ slice_index_or coops k x → y ≡ slice_index_or coops k y → n ≡ min (y.count + 1) 4294967295 → slice_set coops k (record x { count = n }) ≡ one_more coops
unfolding one_more with_count
set_last [] k x y n e f g h = absurd (omega (arith, e))
set_last (c ∷ []) zero x y n e f g h =
    let its : n ≡ narrow (suc c.count) = h ∙ (ap (λ (d : CoopDef). min (d.count + 1) 4294967295) g ∙ omega arith) in
    ap (λ d. with_count d n ∷ []) f ∙ ap (λ m. with_count c m ∷ []) its
set_last (c ∷ []) (suc k) x y n e f g h = absurd (omega (arith, e))
set_last (c ∷ d ∷ coops) zero x y n e f g h = absurd (omega (arith, e))
set_last (c ∷ d ∷ coops) (suc k) x y n e f g h = ap (λ l. c ∷ l) (set_last (d ∷ coops) k x y n (omega (arith, e)) f g h)

pub counted_last : (coops list : List CoopDef) (size : ℕ) (x y : CoopDef) (n : ℕ) → list ≡ coops → size ≡ length list → (size ≡ 0 → ⊥) → x ≡ slice_index_or list (size - 1) x → y ≡ slice_index_or list (size - 1) y → n ≡ min (y.count + 1) 4294967295 → slice_set list (size - 1) (record x { count = n }) ≡ one_more coops
counted_last coops list size x y n e f some g h k = set_last list (size - 1) x y n (omega (arith, f, some)) g h k ∙ ap one_more e

pub none_more : (coops list : List CoopDef) (size : ℕ) → list ≡ coops → size ≡ length list → size ≡ 0 → list ≡ one_more coops
unfolding one_more
none_more coops [] size e f g = ap one_more e
none_more coops (c ∷ list) size e f g = absurd (omega (arith, f, g))
