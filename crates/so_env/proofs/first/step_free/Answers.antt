use Rattle.std.proofs.Common.{◌∙◌, sym, subst}
use Rattle.so_history.specs.Chain.{registration}
use Rattle.so_history.specs.declared.entry.Pick.TheVariants.{Register}
use Rattle.so_ledger.specs.Shapes.{Core}
use Rattle.so_kernel.specs.declared.answers.Stepped.TheVariants.{Nothing}
use Rattle.so_env.specs.Runs.{NoneRuns, tidy_first}
use Rattle.so_env.proofs.StepLaws.{Steps, by_pick, unchanged, second, first_of}
use Rattle.so_env.proofs.first.step_free.Goals as goal

pub step_tidy-requires-clause-free : goal.step_tidy-requires-clause-free
step_tidy-requires-clause-free c =
    let k = c.args.kernel.now in
    let registered : Steps k c.step.new.kernel (registration k.scene k.history) Nothing = by_pick k c.step.new.kernel Register Nothing (sym c.in-Nothing.is ∙ c.step.ensures.answer) c.step.ensures.after in
    subst NoneRuns (sym (unchanged k c.step.new.kernel (registration k.scene k.history) registered)) c.requires.free

pub returns-in-Nothing-clause-answer : goal.returns-in-Nothing-clause-answer
returns-in-Nothing-clause-answer c =
    let k = c.args.kernel.now in
    let registered : Steps k c.step.new.kernel (registration k.scene k.history) Nothing = by_pick k c.step.new.kernel Register Nothing (sym c.in-Nothing.is ∙ c.step.ensures.answer) c.step.ensures.after in
    let P : Core → Type 0 = λ x. Steps x c.step_tidy.new.kernel (tidy_first x) c.step_tidy.result in
    (second k c.step.new.kernel c.step_tidy.new.kernel (registration k.scene k.history) (tidy_first k) c.step_tidy.result registered
    (subst P (unchanged k c.step.new.kernel (registration k.scene k.history) registered) record { answer_is = c.step_tidy.ensures.answer; after = c.step_tidy.ensures.after })).answer_is

pub returns-in-Nothing-clause-after : goal.returns-in-Nothing-clause-after
returns-in-Nothing-clause-after c =
    let k = c.args.kernel.now in
    let registered : Steps k c.step.new.kernel (registration k.scene k.history) Nothing = by_pick k c.step.new.kernel Register Nothing (sym c.in-Nothing.is ∙ c.step.ensures.answer) c.step.ensures.after in
    let P : Core → Type 0 = λ x. Steps x c.step_tidy.new.kernel (tidy_first x) c.step_tidy.result in
    (second k c.step.new.kernel c.step_tidy.new.kernel (registration k.scene k.history) (tidy_first k) c.step_tidy.result registered
    (subst P (unchanged k c.step.new.kernel (registration k.scene k.history) registered) record { answer_is = c.step_tidy.ensures.answer; after = c.step_tidy.ensures.after })).after

pub returns-in_default : goal.returns-in_default
returns-in_default c =
    let k = c.args.kernel.now in
    let it = first_of k c.step.new.kernel (registration k.scene k.history) (tidy_first k) c.step.result c.in_default.not-Nothing (by_pick k c.step.new.kernel Register c.step.result c.step.ensures.answer c.step.ensures.after) in
    record { answer = it.answer_is; after = it.after; held = c.step.ensures.held }
