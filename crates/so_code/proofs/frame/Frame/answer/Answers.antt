use Rattle.std.proofs.Common.{◌≡◌, ◌∙◌, ap, sym}
use Rattle.so_code.specs.Answers.{answered, answered_in}
use Rattle.so_code.proofs.AnswerLaws.{answered_frame, answered_awake}
use Rattle.so_code.proofs.frame.Frame.answer.Goals as goal

pub returns-in-Wait-clause-frame : goal.returns-in-Wait-clause-frame
returns-in-Wait-clause-frame c = λ code frame.
    let e : c.answered_to.new.self ≡ answered c.args.answer c.args.self.now = c.answered_to.ensures ∙ ap (λ t. answered_in t c.args.answer c.args.self.now) (sym c.in-Wait.is) in
    rw e (answered_frame code c.args.answer c.args.self.now frame c.requires.fits)

pub returns-in-Wait-clause-awake : goal.returns-in-Wait-clause-awake
returns-in-Wait-clause-awake c =
    let e : c.answered_to.new.self ≡ answered c.args.answer c.args.self.now = c.answered_to.ensures ∙ ap (λ t. answered_in t c.args.answer c.args.self.now) (sym c.in-Wait.is) in
    rw e (answered_awake c.args.answer c.args.self.now c.requires.fits)
