use Rattle.std.proofs.Common.{◌≡◌, Some, ap}
use Rattle.so_code.specs.Machine.{step}
use Rattle.so_code.proofs.StepOrigins.{Told, step_told}
use Rattle.so_code.proofs.MoveLaws.{starts, goes_on_way, ends_way}
use Rattle.so_code.proofs.run.run.Goals as goal

pub loop-step-init : goal.loop-step-init
loop-step-init c = starts c.args.code.now c.requires.code c.args.frame.now c.requires.frame

pub returns-in-Some-clause-step : goal.returns-in-Some-clause-step
returns-in-Some-clause-step c =
    (ends_way c.args.code.now c.requires.code c.args.frame.now c.loop-step._step c.loop-step.frame c.step.new.self c.in-Some.found (rw (← c.in-Some.is) c.step.ensures) c.loop-step.invariant).0

pub returns-in-Some-clause-frame : goal.returns-in-Some-clause-frame
returns-in-Some-clause-frame c =
    (ends_way c.args.code.now c.requires.code c.args.frame.now c.loop-step._step c.loop-step.frame c.step.new.self c.in-Some.found (rw (← c.in-Some.is) c.step.ensures) c.loop-step.invariant).1

pub loop-step-preserved : goal.loop-step-preserved
loop-step-preserved c = goes_on_way c.args.code.now c.requires.code c.args.frame.now c.loop-step._step c.loop-step.frame c.step.new.self (rw (← c.in_default.is) c.step.ensures) c.loop-step.invariant

pub returns-in-Some-clause-waits : goal.returns-in-Some-clause-waits
returns-in-Some-clause-waits c =
    let e : (Some c.in-Some.found, c.step.new.self) ≡ step c.args.code.now c.loop-step.frame = rw (← c.in-Some.is) c.step.ensures in
    let told : Told c.args.code.now c.loop-step.frame (Some c.in-Some.found, c.step.new.self) = rw e (step_told c.args.code.now c.loop-step.frame c.loop-step.invariant.frame) in
    λ asked m. told.waits asked (ap Some m)
