use Rattle.std.proofs.Common.{◌∙◌, sym, subst}
use Rattle.so_history.specs.Chain.{tidying}
use Rattle.so_scene.specs.Lanes.{lanes}
use Rattle.so_history.specs.declared.entry.Pick.TheVariants.{Tidy}
use Rattle.so_ledger.specs.Shapes.{Core}
use Rattle.so_kernel.specs.declared.answers.Stepped.TheVariants.{Nothing}
use Rattle.so_env.specs.Runs.{NoneRuns, lanes_entry}
use Rattle.so_env.proofs.StepLaws.{Steps, by_pick, unchanged, goes_on, second, first_of}
use Rattle.so_env.proofs.first.step_tidy.Goals as goal

pub step_lanes-requires-clause-free : goal.step_lanes-requires-clause-free
step_lanes-requires-clause-free c =
    let k = c.args.kernel.now in
    let tidied : Steps k c.step.new.kernel (tidying k.scene k.history) Nothing = by_pick k c.step.new.kernel Tidy Nothing (sym c.in-Nothing.is ∙ c.step.ensures.answer) c.step.ensures.after in
    subst NoneRuns (sym (unchanged k c.step.new.kernel (tidying k.scene k.history) tidied)) c.requires.free

pub returns-in-Nothing-clause-answer : goal.returns-in-Nothing-clause-answer
returns-in-Nothing-clause-answer c =
    let k = c.args.kernel.now in
    let tidied : Steps k c.step.new.kernel (tidying k.scene k.history) Nothing = by_pick k c.step.new.kernel Tidy Nothing (sym c.in-Nothing.is ∙ c.step.ensures.answer) c.step.ensures.after in
    let P : Core → Type 0 = λ x. Steps x c.step_lanes.new.kernel (lanes_entry x (lanes x.scene)) c.step_lanes.result in
    (second k c.step.new.kernel c.step_lanes.new.kernel (tidying k.scene k.history) (lanes_entry k (lanes k.scene)) c.step_lanes.result tidied
    (subst P (unchanged k c.step.new.kernel (tidying k.scene k.history) tidied) record { answer_is = c.step_lanes.ensures.answer; after = c.step_lanes.ensures.after })).answer_is

pub returns-in-Nothing-clause-after : goal.returns-in-Nothing-clause-after
returns-in-Nothing-clause-after c =
    let k = c.args.kernel.now in
    let tidied : Steps k c.step.new.kernel (tidying k.scene k.history) Nothing = by_pick k c.step.new.kernel Tidy Nothing (sym c.in-Nothing.is ∙ c.step.ensures.answer) c.step.ensures.after in
    let P : Core → Type 0 = λ x. Steps x c.step_lanes.new.kernel (lanes_entry x (lanes x.scene)) c.step_lanes.result in
    (second k c.step.new.kernel c.step_lanes.new.kernel (tidying k.scene k.history) (lanes_entry k (lanes k.scene)) c.step_lanes.result tidied
    (subst P (unchanged k c.step.new.kernel (tidying k.scene k.history) tidied) record { answer_is = c.step_lanes.ensures.answer; after = c.step_lanes.ensures.after })).after

pub returns-in_default : goal.returns-in_default
returns-in_default c =
    let k = c.args.kernel.now in
    let it = first_of k c.step.new.kernel (tidying k.scene k.history) (lanes_entry k (lanes k.scene)) c.step.result c.in_default.not-Nothing (by_pick k c.step.new.kernel Tidy c.step.result c.step.ensures.answer c.step.ensures.after) in
    record { answer = it.answer_is; after = it.after; held = c.step.ensures.held }

pub step_lanes-requires-clause-going : goal.step_lanes-requires-clause-going
step_lanes-requires-clause-going c =
    let k = c.args.kernel.now in
    goes_on k c.step.new.kernel (tidying k.scene k.history) (by_pick k c.step.new.kernel Tidy Nothing (sym c.in-Nothing.is ∙ c.step.ensures.answer) c.step.ensures.after)
