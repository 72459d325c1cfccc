-- The groups of each dispatcher get their numbers again.
use Rattle.std.proofs.Common.{◌≡◌, ℕ, suc, ◌+◌, ◌<◌, ◌≤◌, ◌==◌, List, [], ◌∷◌, ◌++◌, length, get_or, take, Bool, true, false, cond, nat_lt, Option, Some, None, option_map, is_some, refl, sym, ap, ◌∙◌, subst, arith, bytes_eq, eq-eqb}
use Rattle.std.specs.Prelude.{unwrap_or}
use Rattle.std.specs.List.{IsDistinct, cons_option}
use Rattle.std.proofs.lemmas.Bool.{ltb-true, eqb-true}
use Rattle.std.proofs.lemmas.List.{take_all}
use Rattle.std.proofs.lemmas.Option.{none-some}
use Rattle.so_ids.specs.declared.DispId.{DispId}
use Rattle.so_lists.specs.Lists.{each_below, given_after}
use Rattle.so_lists.proofs.EachBelow.{each_below-elements, each_below-same}
use Rattle.so_scene.specs.declared.parts.AgentDef.{AgentDef}
use Rattle.so_scene.specs.declared.parts.SceneParts.{SceneParts}
use Rattle.so_scene.specs.Checked.{IsScene}
use Rattle.so_scene.specs.Names.{number_in}
use Rattle.so_scene.specs.Parts.{groups_of}
use Rattle.so_scene.proofs.LaneLaws.{few_groups}
use Rattle.so_scene_build.specs.declared.groups.Group.{Group}
use Rattle.so_scene_build.specs.Groups.{names_for, names_at, group_lists, with_group, number_for, group_number}
use Rattle.so_scene_build.specs.Kept.{uses_on}
use Rattle.so_scene_fields.specs.Visits.{narrow}
use Rattle.so_scene_build.specs.CodeBuilder.{number_or_next}
use Rattle.so_scene_build.proofs.Grouped.{names_start, other_same, same_disp, same_with_old, more_with_new}
use Rattle.so_scene_build.proofs.Uses.{all_uses}
use Rattle.so_scene_data.specs.ActData.{group_at, group_text}
use Rattle.so_scene_data.proofs.Named.{number_take, new_take}
use Rattle.so_scene_data.proofs.ActLaws.{taken_len, more_texts, narrow_small}

-- a dispatcher's groups so far are the first ones that it has, and these uses give the others
record IsLeft (s : SceneParts) (d : DispId) (groups : List Group) (uses : List ℕ) : Type 0 where
  met : ℕ
  few : met ≤ length (groups_of s d)
  same : names_for d groups ≡ take met (groups_of s d)
  left : given_after met uses ≡ Some (length (groups_of s d))

-- of all dispatchers, where these agents are left
pub AreLeft : SceneParts → List Group → List AgentDef → Type 0
AreLeft s groups agents = (d : DispId) → d.0 < length s.dispatchers → IsLeft s d groups (uses_on d agents)

-- numbers that are given only grow
grow_step : (n m k : ℕ) (uses : List ℕ) (b c : Bool) → ((p : ℕ) → given_after p uses ≡ Some m → p ≤ m) → cond b (given_after n uses) (cond c (given_after (n + 1) uses) None) ≡ Some m → n ≤ m
grow_step n m k uses true c go e = go n e
grow_step n m k uses false true go e = let l : n + 1 ≤ m = go (n + 1) e in omega arith
grow_step n m k uses false false go e = absurd (none-some m e)

grows : (n m : ℕ) (uses : List ℕ) → given_after n uses ≡ Some m → n ≤ m
grows n m [] e = let same : n ≡ m = ap (λ o. unwrap_or o 0) e in omega arith
grows n m (k ∷ uses) e = grow_step n m k uses (nat_lt k n) (k == n) (λ p f. grows p m uses f) e

-- ---- one agent's group

record Regroups (s : SceneParts) (d : DispId) (groups : List Group) (uses : List ℕ) (g : ℕ) : Type 0 where
  number : number_for d (group_at s d g) groups ≡ g
  after : IsLeft s d (with_group d (Some (group_at s d g)) groups) uses

old_group : (s : SceneParts) (d : DispId) (groups : List Group) (uses : List ℕ) (m g : ℕ) → IsDistinct bytes_eq (groups_of s d) → length (groups_of s d) ≤ 4096 → g < m → m ≤ length (groups_of s d)
    → names_for d groups ≡ take m (groups_of s d) → given_after m uses ≡ Some (length (groups_of s d)) → Regroups s d groups uses g
old_group s d groups uses m g once small l few same left =
    let found : number_in (names_for d groups) (group_at s d g) ≡ Some g = ap (λ (ns : List (List ℕ)). number_in ns (group_at s d g)) same ∙ number_take (groups_of s d) m g once l few in
    record {
      number = ap (λ o. number_or_next o (names_for d groups)) found ∙ narrow_small g (omega arith);
      after = record { met = m; few = few; same = ap (names_for d) (same_with_old d (group_at s d g) groups (ap (λ (o : Option ℕ). is_some o) found)) ∙ same; left = left };
    }

new_group : (s : SceneParts) (d : DispId) (groups : List Group) (uses : List ℕ) (m : ℕ) → IsDistinct bytes_eq (groups_of s d) → length (groups_of s d) ≤ 4096 → m < length (groups_of s d)
    → names_for d groups ≡ take m (groups_of s d) → given_after (m + 1) uses ≡ Some (length (groups_of s d)) → Regroups s d groups uses m
new_group s d groups uses m once small l same left =
    let missing : number_in (names_for d groups) (group_at s d m) ≡ None = ap (λ (ns : List (List ℕ)). number_in ns (group_at s d m)) same ∙ new_take (groups_of s d) m once l in
    let next : suc m ≡ m + 1 = omega arith in
    record {
      number = ap (λ o. number_or_next o (names_for d groups)) missing ∙ (ap narrow (ap length same ∙ taken_len (groups_of s d) m (omega arith)) ∙ narrow_small m (omega arith));
      after = record {
        met = m + 1;
        few = omega arith;
        same = more_with_new d (group_at s d m) groups (ap (λ (o : Option ℕ). is_some o) missing)
            ∙ (ap (λ (ns : List (List ℕ)). ns ++ group_at s d m ∷ []) same ∙ (more_texts (groups_of s d) m l ∙ ap (λ k. take k (groups_of s d)) next));
        left = left;
      };
    }

one_group : (s : SceneParts) (d : DispId) (groups : List Group) (uses : List ℕ) (m g : ℕ) (b c : Bool) → IsDistinct bytes_eq (groups_of s d) → length (groups_of s d) ≤ 4096 → nat_lt g m ≡ b → (g == m) ≡ c → m ≤ length (groups_of s d)
    → names_for d groups ≡ take m (groups_of s d) → cond b (given_after m uses) (cond c (given_after (m + 1) uses) None) ≡ Some (length (groups_of s d)) → Regroups s d groups uses g
one_group s d groups uses m g true c once small p q few same e = old_group s d groups uses m g once small (ltb-true g m p) few same e
one_group s d groups uses m g false true once small p q few same e =
    let l : m + 1 ≤ length (groups_of s d) = grows (m + 1) (length (groups_of s d)) uses e in
    subst (λ k. Regroups s d groups uses k) (sym (eqb-true g m q)) (new_group s d groups uses m once small (omega arith) same e)
one_group s d groups uses m g false false once small p q few same e = absurd (none-some (length (groups_of s d)) e)

own_group : (s : SceneParts) (d : DispId) (groups : List Group) (uses : List ℕ) (o : Option ℕ) → IsScene s → d.0 < length s.dispatchers → IsLeft s d groups (cons_option o uses)
    → (group_number d (option_map (group_at s d) o) groups ≡ o) × IsLeft s d (with_group d (option_map (group_at s d) o) groups) uses
own_group s d groups uses None h l left = (refl, left)
own_group s d groups uses (Some g) h l left =
    let r = one_group s d groups uses left.met g (nat_lt g left.met) (g == left.met) (h.groups d l).each_once (few_groups s h d l) refl refl left.few left.same left.left in
    (ap Some r.number, r.after)

own_uses : (a : AgentDef) (agents : List AgentDef) → uses_on a.disp (a ∷ agents) ≡ cons_option a.group (uses_on a.disp agents)
own_uses a agents = let own : (a.disp.0 == a.disp.0) ≡ true = eq-eqb a.disp.0 a.disp.0 refl in rw own refl

other_uses : (d : DispId) (a : AgentDef) (agents : List AgentDef) → (a.disp.0 == d.0) ≡ false → uses_on d (a ∷ agents) ≡ uses_on d agents
other_uses d a agents e = rw e refl

after_at : (s : SceneParts) (groups : List Group) (a : AgentDef) (agents : List AgentDef) (d : DispId) (b : Bool) → (a.disp.0 == d.0) ≡ b → IsLeft s d groups (uses_on d (a ∷ agents))
    → IsLeft s a.disp (with_group a.disp (group_text s a) groups) (uses_on a.disp agents) → IsLeft s d (with_group a.disp (group_text s a) groups) (uses_on d agents)
after_at s groups a agents d true e left own = subst (λ (x : DispId). IsLeft s x (with_group a.disp (group_text s a) groups) (uses_on x agents)) (same_disp d a.disp e) own
after_at s groups a agents d false e left own = record {
  met = left.met;
  few = left.few;
  same = other_same d a.disp (group_text s a) groups e ∙ left.same;
  left = ap (given_after left.met) (sym (other_uses d a agents e)) ∙ left.left;
}

-- its number is read again, and the groups are those behind it
pub group_again : (s : SceneParts) (groups : List Group) (a : AgentDef) (agents : List AgentDef) → IsScene s → a.disp.0 < length s.dispatchers → AreLeft s groups (a ∷ agents)
    → (group_number a.disp (group_text s a) groups ≡ a.group) × AreLeft s (with_group a.disp (group_text s a) groups) agents
unfolding AreLeft
group_again s groups a agents h l left =
    let own = own_group s a.disp groups (uses_on a.disp agents) a.group h l (subst (λ (uses : List ℕ). IsLeft s a.disp groups uses) (own_uses a agents) (left a.disp l)) in
    (own.0, λ d m. after_at s groups a agents d (a.disp.0 == d.0) refl (left d m) own.1)

-- ---- all agents

pub all_left : (s : SceneParts) → IsScene s → AreLeft s [] s.agents
unfolding AreLeft
all_left s h = λ d l. record {
  met = 0;
  few = omega arith;
  same = names_start d;
  left = ap (given_after 0) (sym (all_uses s d)) ∙ (h.groups d l).numbered;
}

all_named : (s : SceneParts) (d : DispId) (groups : List Group) → IsLeft s d groups [] → names_for d groups ≡ groups_of s d
all_named s d groups left =
    let all : left.met ≡ length (groups_of s d) = ap (λ o. unwrap_or o 0) left.left in
    left.same ∙ take_all left.met (groups_of s d) (omega arith)

disp_at : ℕ → DispId
disp_at k = record { 0 = k }

names_again : (s : SceneParts) (groups : List Group) (k : ℕ) → AreLeft s groups [] → k < length s.dispatchers → names_at groups k ≡ get_or s.groups k []
unfolding AreLeft disp_at
names_again s groups k left l = all_named s (disp_at k) groups (left (disp_at k) l)

pub groups_again : (s : SceneParts) (groups : List Group) → IsScene s → AreLeft s groups [] → group_lists groups (length s.dispatchers) ≡ s.groups
groups_again s groups h left =
    each_below-same (names_at groups) (λ k. get_or s.groups k []) (length s.dispatchers) (λ k l. names_again s groups k left l)
    ∙ (ap (each_below (λ k. get_or s.groups k [])) (sym h.all_groups) ∙ each_below-elements s.groups [])
