use Rattle.std.proofs.Common.{◌≡◌, Bool, true, false, ◌||◌, refl, sym, ◌∙◌, subst, length}
use Rattle.std.proofs.lemmas.Bool.{ltb-false, or_left, or_right, true≢false}
use Rattle.std.specs.Prelude.{Result}
use Rattle.so_fault.specs.declared.fault.SceneRefusal.{SceneRefusal}
use Rattle.so_scene_fields.specs.Reads.{Returns}
use Rattle.so_scene_json.proofs.finish.exceeds.Goals as goal

returns_same : (a b : Bool) (r : Result Bool SceneRefusal) → a ≡ b → Returns b r → Returns a r
returns_same a b r e h = subst (λ x. Returns x r) (sym e) h

third_or : (a b c : Bool) → a ≡ false → b ≡ false → (a || (b || c)) ≡ c
third_or true b c e f = absurd (true≢false e)
third_or false true c e f = absurd (true≢false f)
third_or false false c e f = refl

pub has_many_lanes-requires : goal.has_many_lanes-requires
has_many_lanes-requires c = c.requires.bound (ltb-false 4096 (length c.args.parts.now.agents) (sym c.has_many_agents.ensures ∙ c.if-has_many_agents.false))

pub returns-then-has_many_agents : goal.returns-then-has_many_agents
returns-then-has_many_agents c = or_left _ _ (sym c.has_many_agents.ensures ∙ c.if-has_many_agents.true)

pub returns-then-has_many_texts : goal.returns-then-has_many_texts
returns-then-has_many_texts c = or_right _ _ (or_left _ _ (sym c.has_many_texts.ensures ∙ c.if-has_many_texts.true))

pub returns : goal.returns
returns c = returns_same _ _ c.has_many_lanes.result (third_or _ _ _ (sym c.has_many_agents.ensures ∙ c.if-has_many_agents.false) (sym c.has_many_texts.ensures ∙ c.if-has_many_texts.false)) c.has_many_lanes.ensures
