use Rattle.std.proofs.Common.{sym, ◌∙◌, ap}
use Rattle.so_history.specs.declared.entry.Pick.TheVariants.{Register, Lane, Tidy}
use Rattle.so_ledger.specs.Gates.{core_after}
use Rattle.so_ledger.proofs.GateLaws.{gated_step}
use Rattle.so_kernel.specs.Answers.{step_answers}
use Rattle.so_kernel.proofs.HeldLaws.{held_registered, held_tidied}
use Rattle.so_kernel.proofs.steps.step.Goals as goal

pub returns-in-Register-clause-answer : goal.returns-in-Register-clause-answer
returns-in-Register-clause-answer c = rw c.in-Register.is (c.register_next.ensures.answer ∙ ap step_answers (sym (gated_step c.args.kernel.now Register)))

pub returns-in-Register-clause-after : goal.returns-in-Register-clause-after
returns-in-Register-clause-after c = rw c.in-Register.is (c.register_next.ensures.after ∙ ap (core_after c.args.kernel.now) (sym (gated_step c.args.kernel.now Register)))

pub returns-in-Register-clause-held : goal.returns-in-Register-clause-held
returns-in-Register-clause-held c = rw c.register_next.ensures.after (held_registered c.args.kernel.now c.args.turns.now c.scene-scene.ensures.legal c.requires.held)

pub returns-in-Lane-clause-answer : goal.returns-in-Lane-clause-answer
returns-in-Lane-clause-answer c = rw c.in-Lane.is (c.step_lane.ensures.answer ∙ ap step_answers (sym (gated_step c.args.kernel.now (Lane c.in-Lane.lane))))

pub returns-in-Lane-clause-after : goal.returns-in-Lane-clause-after
returns-in-Lane-clause-after c = rw c.in-Lane.is (c.step_lane.ensures.after ∙ ap (core_after c.args.kernel.now) (sym (gated_step c.args.kernel.now (Lane c.in-Lane.lane))))

pub returns-in-Tidy-clause-answer : goal.returns-in-Tidy-clause-answer
returns-in-Tidy-clause-answer c = rw c.in-Tidy.is (c.tidy.ensures.answer ∙ ap step_answers (sym (gated_step c.args.kernel.now Tidy)))

pub returns-in-Tidy-clause-after : goal.returns-in-Tidy-clause-after
returns-in-Tidy-clause-after c = rw c.in-Tidy.is (c.tidy.ensures.after ∙ ap (core_after c.args.kernel.now) (sym (gated_step c.args.kernel.now Tidy)))

pub returns-in-Tidy-clause-held : goal.returns-in-Tidy-clause-held
returns-in-Tidy-clause-held c = rw c.tidy.ensures.after (held_tidied c.args.kernel.now c.args.turns.now c.scene-scene.ensures.legal c.requires.held)
