use Rattle.std.proofs.Common.{◌≡◌, ◌<◌, ◌+◌, ◌∙◌, sym, ap, refl, Err, None, subst}
use Rattle.so_scene.specs.Lanes.{lanes}
use Rattle.so_history.specs.Chain.{taking_entry, lane_entry}
use Rattle.so_history.specs.declared.entry.Pick.TheVariants.{Lane}
use Rattle.so_ledger.specs.Shapes.{Core}
use Rattle.so_ledger.specs.Gates.{gated}
use Rattle.so_ledger.specs.declared.gate.Barred.TheVariants.{Nothing}
use Rattle.so_kernel.specs.declared.answers.Stepped.TheVariants.{Nothing as NothingStep}
use Rattle.so_env.specs.Runs.{lanes_entry}
use Rattle.so_env.proofs.StepLaws.{Steps, by_pick, unchanged, begins, first_lane, one_more, none_before}
use Rattle.so_env.proofs.first.step_lanes.Goals as goal

pub loop-lane-init : goal.loop-lane-init
loop-lane-init c =
    let k = c.args.kernel.now in
    let none : lanes_entry k c.first_lane-lane.result ≡ None = none_before k c.first_lane-lane.result c.first_lane-lane.ensures.none in
    (refl, c.requires.held, ap (gated k) none ∙ c.requires.going)

pub returns-in_default : goal.returns-in_default
returns-in_default c =
    let k = c.args.kernel.now in
    let count : c.lanes-lanes.result ≡ lanes k.scene = c.lanes-lanes.ensures.value ∙ ap lanes c.scene.ensures.value in
    let below : c.loop-lane.lane < lanes k.scene = rw (← count) c.loop-lane-test.true in
    let P : Core → Type 0 = λ x. gated x (lanes_entry x c.loop-lane.lane) ≡ Err Nothing in
    let Q : Core → Type 0 = λ x. Steps x c.step.new.kernel (lane_entry x.scene x.history (record { 0 = c.loop-lane.lane })) c.step.result in
    let made = subst Q c.loop-lane.invariant.0 (by_pick c.loop-lane.kernel c.step.new.kernel (Lane (record { 0 = c.loop-lane.lane })) c.step.result c.step.ensures.answer c.step.ensures.after) in
    let it = first_lane k c.step.new.kernel c.loop-lane.lane c.step.result below (subst P c.loop-lane.invariant.0 c.loop-lane.invariant.2) c.in_default.not-Nothing (begins k c.step.new.kernel (record { 0 = c.loop-lane.lane }) c.step.result c.requires.free below made) in
    record { answer = it.answer_is; after = it.after; held = c.step.ensures.held }

pub loop-lane-preserved : goal.loop-lane-preserved
loop-lane-preserved c =
    let k = c.args.kernel.now in
    let count : c.lanes-lanes.result ≡ lanes k.scene = c.lanes-lanes.ensures.value ∙ ap lanes c.scene.ensures.value in
    let below : c.loop-lane.lane < lanes k.scene = rw (← count) c.loop-lane-test.true in
    let P : Core → Type 0 = λ x. gated x (lanes_entry x c.loop-lane.lane) ≡ Err Nothing in
    let Q : Core → Type 0 = λ x. Steps x c.step.new.kernel (lane_entry x.scene x.history (record { 0 = c.loop-lane.lane })) NothingStep in
    let made = subst Q c.loop-lane.invariant.0 (by_pick c.loop-lane.kernel c.step.new.kernel (Lane (record { 0 = c.loop-lane.lane })) NothingStep (sym c.in-Nothing.is ∙ c.step.ensures.answer) c.step.ensures.after) in
    let begun = begins k c.step.new.kernel (record { 0 = c.loop-lane.lane }) NothingStep c.requires.free below made in
    let same : c.step.new.kernel ≡ k = unchanged k c.step.new.kernel (taking_entry k.scene k.history (record { 0 = c.loop-lane.lane })) begun in
    let R : Core → Type 0 = λ x. gated x (lanes_entry x (c.loop-lane.lane + 1)) ≡ Err Nothing in
    (same, c.step.ensures.held, subst R (sym same) (one_more k c.step.new.kernel c.loop-lane.lane (subst P c.loop-lane.invariant.0 c.loop-lane.invariant.2) begun))
