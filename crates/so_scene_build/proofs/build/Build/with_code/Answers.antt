use Rattle.std.proofs.Common.{◌≡◌, ◌≤◌, ℕ, List, [], ◌∷◌, ◌++◌, length, Bool, true, false, nat_lt, Result, Ok, refl, sym, ap, ◌∙◌, subst, arith}
use Rattle.std.proofs.lemmas.Bool.{true≢false, le-ltb}
use Rattle.serde_json.specs.Data.{Data}
use Rattle.serde_json.specs.View.{view}
use Rattle.so_fault.specs.declared.fault.SceneFault.{SceneFault}
use Rattle.so_fault.specs.declared.fault.SceneRefusal.{SceneRefusal}
use Rattle.so_scene.specs.declared.parts.AgentDef.{AgentDef}
use Rattle.so_scene_build.specs.declared.build.Build.{Build}
use Rattle.so_scene_passes.specs.declared.scope.Scope.{Scope}
use Rattle.so_scene_build.specs.declared.code_builder.CodeBuilder.{CodeBuilder}
use Rattle.so_state.specs.declared.states.State.{State}
use Rattle.so_scene_fields.specs.Visits.{Place, Leaves}
use Rattle.so_scene_build.specs.declared.groups.Group.{Group}
use Rattle.so_scene_fields.specs.Values.{group_in}
use Rattle.so_scene_build.specs.Groups.{with_group}
use Rattle.so_scene_build.specs.Defs.{disp_in}
use Rattle.so_ids.specs.declared.CoopId.{CoopId}
use Rattle.so_scene_build.specs.Build.{agent_written, agent_with, agent_added, last_coop, one_more, with_code}
use Rattle.so_scene_build.proofs.build.Build.with_code.Goals as goal

abbrev ok : Build → Result Build SceneFault
ok b = Ok b

within : (place : Place) (s : Build) (d : Data) (tree : List State) (w : CodeBuilder) (b : Bool) → nat_lt 1024 (length w.code) ≡ b → length w.code ≤ 1024
    → with_code place s d tree w ≡ Ok (agent_added s d tree w)
within place s d tree w true e l = absurd (true≢false (sym e ∙ le-ltb 1024 (length w.code) l))
within place s d tree w false e l = rw e

begun : List (List ℕ) → Scope → CodeBuilder
begun texts scope = record { texts = texts; code = []; scope = scope }

abbrev grouped : Build → Data → Build
grouped b d = record b { groups = with_group (disp_in b.names d) (group_in d) b.groups }

was : (a b : Build) → ok a ≡ Ok b → a ≡ b
was a b e = cc

-- the texts were taken out while the code was written
added : (place : Place) (s taken next : Build) (d : Data) (tree : List State) (scope : Scope) (w : CodeBuilder) (texts : List (List ℕ)) (groups : List Group) (agent : AgentDef) (n : ℕ) (coop : CoopId) → texts ≡ s.texts → taken ≡ record s { texts = [] } → n ≡ length s.agents → coop ≡ last_coop s.coops
    → agent_written taken.names (record { texts = texts; code = []; scope = scope }) d ≡ w → groups ≡ taken.groups → agent_with n coop taken.names groups d tree w.scope w.code ≡ agent → length w.code ≤ 1024 → ok (grouped taken d) ≡ Ok next
    → with_code place s d tree (agent_written s.names (record { texts = s.texts; code = []; scope = scope }) d) ≡ Ok (record next { coops = one_more next.coops; agents = next.agents ++ agent ∷ []; texts = w.texts })
unfolding begun
added place s taken next d tree scope w texts groups agent n coop e f l m g k a few h =
    let same : agent_written s.names (begun s.texts scope) d ≡ w = ap (λ x. agent_written s.names (begun x scope) d) (sym e) ∙ (ap (λ (b : Build). agent_written b.names (begun texts scope) d) (sym f) ∙ g) in
    let there : groups ≡ s.groups = k ∙ ap (λ (b : Build). b.groups) f in
    let made : agent_with n coop s.names s.groups d tree w.scope w.code ≡ agent = ap (λ x. agent_with n coop s.names x d tree w.scope w.code) (sym there) ∙ (ap (λ (b : Build). agent_with n coop b.names groups d tree w.scope w.code) (sym f) ∙ a) in
    let after : grouped (record s { texts = [] }) d ≡ next = ap (λ b. grouped b d) (sym f) ∙ was (grouped taken d) next h in
    ap (with_code place s d tree) same
    ∙ (within place s d tree w (nat_lt 1024 (length w.code)) refl few
    ∙ (ap (λ k. ok (record (grouped s d) { coops = one_more s.coops; agents = s.agents ++ agent_with k (last_coop s.coops) s.names s.groups d tree w.scope w.code ∷ []; texts = w.texts })) (sym l)
    ∙ (ap (λ c. ok (record (grouped s d) { coops = one_more s.coops; agents = s.agents ++ agent_with n c s.names s.groups d tree w.scope w.code ∷ []; texts = w.texts })) (sym m)
    ∙ (ap (λ x. ok (record (grouped s d) { coops = one_more s.coops; agents = s.agents ++ x ∷ []; texts = w.texts })) made
    ∙ ap (λ (b : Build). ok (record b { coops = one_more b.coops; agents = b.agents ++ agent ∷ []; texts = w.texts })) after))))

leaves_as : (a b : Result Build SceneFault) (r : Result (Unit {0}) SceneRefusal) (n : Build) → a ≡ b → Leaves b r n → Leaves a r n
leaves_as a b r n e h = subst (λ q. Leaves q r n) (sym e) h

pub returns : goal.returns
returns c =
    leaves_as _ _ c.add.result c.add.new.self
    (added c.args.place.now c.args.self.now c.take_texts-texts.new.self c.add_group.new.self (view c.args.value.now) c.args.tree c.args.scope c.in_ok-texts.field-0 c.take_texts-texts.result c.as_slice-groups.result.now c.in_ok-agent.agent c.len-number.result c.last_coop-coop.result c.take_texts-texts.ensures.taken c.take_texts-texts.ensures.rest c.len-number.ensures (c.last_coop-coop.ensures ∙ ap last_coop c.as_slice.ensures) c.in_ok-texts.ensures.value c.as_slice-groups.ensures c.in_ok-agent.ensures (omega (arith, c.if-len-gt1024.false, c.len.ensures)) c.in_ok-add_group.ensures)
    c.add.ensures
