use Rattle.std.proofs.Common.{◌∙◌, sym, ap}
use Rattle.so_history.specs.declared.entry.Pick.TheVariants.{Lane}
use Rattle.so_ledger.specs.Gates.{core_after}
use Rattle.so_kernel.specs.Answers.{step_answers}
use Rattle.so_kernel.proofs.HeldLaws.{first_of_turns, none_running}
use Rattle.so_env.specs.Runs.{NoneRuns}
use Rattle.so_env.proofs.StepLaws.{by_pick, first_free}
use Rattle.so_env.proofs.first.step_first.Goals as goal

pub step-requires-clause-lane : goal.step-requires-clause-lane
step-requires-clause-lane c = rw (← c.requires.held.size) c.in-Some.ensures.in_range

pub returns-in-Some-clause-answer : goal.returns-in-Some-clause-answer
returns-in-Some-clause-answer c =
    let e = first_of_turns c.args.kernel.now c.args.turns.now c.in-Some.lane c.scene-scene.ensures.scene c.scene-scene.ensures.legal c.requires.held (rw (← c.requires.held.size) c.in-Some.ensures.in_range) c.in-Some.ensures.holds c.in-Some.ensures.none_before in
    (by_pick c.args.kernel.now c.step.new.kernel (Lane c.in-Some.lane) c.step.result c.step.ensures.answer c.step.ensures.after).answer_is ∙ ap step_answers (sym e)

pub returns-in-Some-clause-after : goal.returns-in-Some-clause-after
returns-in-Some-clause-after c =
    let e = first_of_turns c.args.kernel.now c.args.turns.now c.in-Some.lane c.scene-scene.ensures.scene c.scene-scene.ensures.legal c.requires.held (rw (← c.requires.held.size) c.in-Some.ensures.in_range) c.in-Some.ensures.holds c.in-Some.ensures.none_before in
    (by_pick c.args.kernel.now c.step.new.kernel (Lane c.in-Some.lane) c.step.result c.step.ensures.answer c.step.ensures.after).after ∙ ap (core_after c.args.kernel.now) (sym e)

pub step_free-requires-clause-free : goal.step_free-requires-clause-free
step_free-requires-clause-free c = none_running c.args.kernel.now c.args.turns.now c.requires.held (rw (← c.requires.held.size) c.in-None.ensures)

pub returns-in-None-clause-answer : goal.returns-in-None-clause-answer
returns-in-None-clause-answer c =
    let free : NoneRuns c.args.kernel.now = none_running c.args.kernel.now c.args.turns.now c.requires.held (rw (← c.requires.held.size) c.in-None.ensures) in
    let e = first_free c.args.kernel.now free in
    c.step_free.ensures.answer ∙ ap step_answers (sym e)

pub returns-in-None-clause-after : goal.returns-in-None-clause-after
returns-in-None-clause-after c =
    let free : NoneRuns c.args.kernel.now = none_running c.args.kernel.now c.args.turns.now c.requires.held (rw (← c.requires.held.size) c.in-None.ensures) in
    let e = first_free c.args.kernel.now free in
    c.step_free.ensures.after ∙ ap (core_after c.args.kernel.now) (sym e)
