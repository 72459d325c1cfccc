-- Of which cooperation a registration is refused, and why.
use Rattle.std.proofs.Common.{◌≡◌, ℕ, ◌<◌, ◌≤◌, length, Bool, true, false, cond, Option, Some, None, refl, sym, ◌∙◌, ap, arith, subst}
use Rattle.std.specs.Prelude.{◌==◌}
use Rattle.std.proofs.lemmas.Map.Views.{exact_unsigned_eq}
use Rattle.std.specs.Option.{option_map}
use Rattle.std.proofs.lemmas.Bool.{eq-eqb, false≢true}
use Rattle.std.proofs.lemmas.Option.{none-some}
use Rattle.so_ids.specs.declared.CoopId.{CoopId}
use Rattle.so_ids.specs.declared.DefFault.{DefFault}
use Rattle.so_ids.specs.declared.Refusal.{Refusal}
use Rattle.so_ids.specs.declared.Refusal.TheVariants as refusal
use Rattle.so_lists.specs.Lists.{or_else, first_below}
use Rattle.so_lists.proofs.First.{or_else-none, none-first_below, some-first_below, option_map-none}
use Rattle.so_scene.specs.declared.parts.SceneParts.{SceneParts}
use Rattle.so_scene.specs.Parts.{coop_of, agents_from, agents_of}
use Rattle.so_scene.specs.Definition.{definition_fault}
use Rattle.so_scene.specs.Cooperations.{Standing, lacks_parent, lacks_slot, refused_slot, refused_rule, admission}
use Rattle.so_coop.specs.Coops.{agent_at}
use Rattle.so_coop.specs.Laws.{IsOpen, HaveSlots, KeepRules, IsFirstCause, IsAdmitted}
use Rattle.so_coop.proofs.AgentLaws.{no_agents, many_agents, slot_refused, rule_refused}

-- the first cause of two that are tried after the cooperation itself
abbrev pub by_slot : SceneParts → Standing → CoopId → Option Refusal
by_slot s st c = first_below (refused_slot s st (agents_of s c)) (length (agents_of s c))

abbrev pub by_rule : SceneParts → CoopId → Option Refusal
by_rule s c = first_below (refused_rule s (agents_of s c)) (length (agents_of s c))

-- ---- where there is none

slot_there : (b : Bool) (cause : Refusal) → cond b (Some cause) None ≡ None → b ≡ false
slot_there true cause e = cc
slot_there false cause e = refl

have_slots : (s : SceneParts) (st : Standing) (c : CoopId) (n : ℕ) → n ≤ (coop_of s c).count → first_below (refused_slot s st (agents_of s c)) n ≡ None → HaveSlots s st c n
have_slots s st c n within none k l =
    slot_there (lacks_slot s st (agents_from (coop_of s c).first k) (agent_at s c k)) (refusal.Binding (agent_at s c k))
    (sym (slot_refused s st c k (omega arith)) ∙ none-first_below (refused_slot s st (agents_of s c)) n none k l)

keep_rules : (s : SceneParts) (c : CoopId) (n : ℕ) → n ≤ (coop_of s c).count → first_below (refused_rule s (agents_of s c)) n ≡ None → KeepRules s c n
keep_rules s c n within none k l =
    option_map-none (refusal.Definition (agent_at s c k)) (definition_fault s (agent_at s c k))
    (sym (rule_refused s c k (omega arith)) ∙ none-first_below (refused_rule s (agents_of s c)) n none k l)

all_slots : (s : SceneParts) (st : Standing) (c : CoopId) → by_slot s st c ≡ None → HaveSlots s st c (coop_of s c).count
all_slots s st c none = have_slots s st c (coop_of s c).count (omega arith) (ap (first_below (refused_slot s st (agents_of s c))) (sym (many_agents s c)) ∙ none)

all_rules : (s : SceneParts) (c : CoopId) → by_rule s c ≡ None → KeepRules s c (coop_of s c).count
all_rules s c none = keep_rules s c (coop_of s c).count (omega arith) (ap (first_below (refused_rule s (agents_of s c))) (sym (many_agents s c)) ∙ none)

-- ---- where there is one

slot_case : (s : SceneParts) (st : Standing) (c : CoopId) (cause : Refusal) (k : ℕ) (b : Bool) → IsOpen s st c → k < (coop_of s c).count → lacks_slot s st (agents_from (coop_of s c).first k) (agent_at s c k) ≡ b →
    cond b (Some (refusal.Binding (agent_at s c k))) None ≡ Some cause → HaveSlots s st c k → IsFirstCause s st c cause
slot_case s st c cause k true is l lacks e before =
    let same : refusal.Binding (agent_at s c k) ≡ cause = cc in
    subst (IsFirstCause s st c) same (is, record { at = k; within = l; agent = refl; here = lacks; before = before })
slot_case s st c cause k false is l lacks e before = absurd (none-some cause e)

names_slot : (s : SceneParts) (st : Standing) (c : CoopId) (cause : Refusal) → IsOpen s st c → by_slot s st c ≡ Some cause → IsFirstCause s st c cause
names_slot s st c cause is e =
    let f = some-first_below (refused_slot s st (agents_of s c)) (length (agents_of s c)) cause e in
    let l : f.0 < (coop_of s c).count = (let m = f.1 in omega (arith, m, many_agents s c)) in
    slot_case s st c cause f.0 (lacks_slot s st (agents_from (coop_of s c).first f.0) (agent_at s c f.0)) is l refl (sym (slot_refused s st c f.0 l) ∙ f.2) (have_slots s st c f.0 (omega (arith, l)) f.3)

rule_case : (s : SceneParts) (st : Standing) (c : CoopId) (cause : Refusal) (k : ℕ) (o : Option DefFault) → IsOpen s st c → HaveSlots s st c (coop_of s c).count → k < (coop_of s c).count →
    definition_fault s (agent_at s c k) ≡ o → option_map (refusal.Definition (agent_at s c k)) o ≡ Some cause → KeepRules s c k → IsFirstCause s st c cause
rule_case s st c cause k (Some fault) is slots l breaks e before =
    let same : refusal.Definition (agent_at s c k) fault ≡ cause = cc in
    subst (IsFirstCause s st c) same (is, slots, record { at = k; within = l; agent = refl; here = breaks; before = before })
rule_case s st c cause k None is slots l breaks e before = absurd (none-some cause e)

names_rule : (s : SceneParts) (st : Standing) (c : CoopId) (cause : Refusal) → IsOpen s st c → HaveSlots s st c (coop_of s c).count → by_rule s c ≡ Some cause → IsFirstCause s st c cause
names_rule s st c cause is slots e =
    let f = some-first_below (refused_rule s (agents_of s c)) (length (agents_of s c)) cause e in
    let l : f.0 < (coop_of s c).count = (let m = f.1 in omega (arith, m, many_agents s c)) in
    rule_case s st c cause f.0 (definition_fault s (agent_at s c f.0)) is slots l refl (sym (rule_refused s c f.0 l) ∙ f.2) (keep_rules s c f.0 (omega (arith, l)) f.3)

names_agent : (s : SceneParts) (st : Standing) (c : CoopId) (cause : Refusal) (o : Option Refusal) → IsOpen s st c → by_slot s st c ≡ o → or_else o (by_rule s c) ≡ Some cause → IsFirstCause s st c cause
names_agent s st c cause (Some first) is by e = names_slot s st c cause is (by ∙ e)
names_agent s st c cause None is by e = names_rule s st c cause is (all_slots s st c by) e

-- ---- all together

some_agents : (n : ℕ) → (n == 0) ≡ false → 0 < n
some_agents n e =
    let some : n ≡ 0 → ⊥ = λ is. false≢true (sym e ∙ eq-eqb n 0 is) in
    omega (arith, some)

names_case : (s : SceneParts) (st : Standing) (c : CoopId) (cause : Refusal) (a b d : Bool) → ((coop_of s c).count == 0) ≡ a → lacks_parent st (coop_of s c).parent ≡ b → st.present c ≡ d →
    cond a (Some refusal.Empty) (cond b (Some refusal.Parent) (cond d (Some refusal.Present) (or_else (by_slot s st c) (by_rule s c)))) ≡ Some cause → IsFirstCause s st c cause
names_case s st c cause true b d none lacks there e = subst (IsFirstCause s st c) (let same : refusal.Empty ≡ cause = cc in same) (exact_unsigned_eq _ _ none)
names_case s st c cause false true d some lacks there e = subst (IsFirstCause s st c) (let same : refusal.Parent ≡ cause = cc in same) (some_agents _ some, lacks)
names_case s st c cause false false true some lacks there e = subst (IsFirstCause s st c) (let same : refusal.Present ≡ cause = cc in same) (some_agents _ some, lacks, there)
names_case s st c cause false false false some lacks there e =
    names_agent s st c cause (by_slot s st c) (record { some_agent = some_agents _ some; parent = lacks; absent = there }) refl e

pub names_first : (s : SceneParts) (st : Standing) (c : CoopId) (cause : Refusal) → admission s st c ≡ Some cause → IsFirstCause s st c cause
names_first s st c cause e =
    names_case s st c cause ((coop_of s c).count == 0) (lacks_parent st (coop_of s c).parent) (st.present c) refl refl refl (rw (no_agents s c) at e)

none_case : (s : SceneParts) (st : Standing) (c : CoopId) (a b d : Bool) → ((coop_of s c).count == 0) ≡ a → lacks_parent st (coop_of s c).parent ≡ b → st.present c ≡ d →
    cond a (Some refusal.Empty) (cond b (Some refusal.Parent) (cond d (Some refusal.Present) (or_else (by_slot s st c) (by_rule s c)))) ≡ None → IsAdmitted s st c
none_case s st c true b d some lacks there e = cc
none_case s st c false true d some lacks there e = cc
none_case s st c false false true some lacks there e = cc
none_case s st c false false false some lacks there e =
    let both = or_else-none (by_slot s st c) (by_rule s c) e in
    record { is_open = record { some_agent = some_agents _ some; parent = lacks; absent = there }; slots = all_slots s st c both.0; rules = all_rules s c both.1 }

pub no_cause : (s : SceneParts) (st : Standing) (c : CoopId) → admission s st c ≡ None → IsAdmitted s st c
no_cause s st c e = none_case s st c ((coop_of s c).count == 0) (lacks_parent st (coop_of s c).parent) (st.present c) refl refl refl (rw (no_agents s c) at e)
