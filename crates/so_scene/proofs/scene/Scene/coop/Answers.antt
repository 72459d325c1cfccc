use Rattle.std.proofs.Common.{◌≡◌, ◌≤◌, ◌+◌, ◌<◌, length, refl, sym, ap, ◌∙◌, subst}
use Rattle.std.specs.Prelude.{slice_index_or}
use Rattle.std.proofs.lemmas.Option.{slice_get_read, get_or_from_slice_get}
use Rattle.so_scene.specs.declared.parts.CoopDef.{CoopDef}
use Rattle.so_scene.specs.declared.parts.SceneParts.{SceneParts}
use Rattle.so_scene.specs.Parts.{no_coop, coop_of}
use Rattle.so_scene.specs.Checked.{IsScene}
use Rattle.so_scene.proofs.AgentLaws.{coop_within}
use Rattle.so_scene.proofs.scene.Scene.coop.Goals as goal

pub returns-clause-range : goal.returns-clause-range
returns-clause-range c =
    let all : c.as_slice.result.now ≡ c.args.self.now.coops = c.as_slice.ensures ∙ ap (λ (s : SceneParts). s.coops) c.self.view_is in
    let l : c.args.coop.0 < length c.as_slice.result.now = subst (λ n. c.args.coop.0 < n) (sym (ap length all)) c.requires in
    let there = slice_get_read c.as_slice.result.now (length c.as_slice.result.now) c.args.coop.0 c.index-as_slice-coop.result refl l c.index-as_slice-coop.is in
    let value : coop_of c.args.self.now c.args.coop ≡ c.index-as_slice-coop.result = subst (λ xs. slice_index_or xs c.args.coop.0 no_coop ≡ c.index-as_slice-coop.result) all (get_or_from_slice_get c.as_slice.result.now c.args.coop.0 c.index-as_slice-coop.result no_coop there) in
    let P : CoopDef → Type 0 = λ coop. coop.first.0 + coop.count ≤ length c.args.self.now.agents in
    subst P value (coop_within c.args.self.now c.args.coop (subst IsScene c.self.view_is c.self.invariant.0) c.requires)
