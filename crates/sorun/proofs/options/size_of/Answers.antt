use Rattle.std.proofs.Common.{◌-◌, true, false, sym, ◌∙◌, subst}
use Rattle.sorun.specs.Options.{most_size_digits}
use Rattle.sorun.specs.Sentences.{IsWritten}
use Rattle.sorun.proofs.LimitLaws.{size-word, size-none, size-zero}
use Rattle.sorun.proofs.LoadLaws.{positive}
use Rattle.sorun.proofs.options.size_of.Goals as goal

pub returns-in_err-size : goal.returns-in_err-size
returns-in_err-size c = c.from_residual.ensures ∙ sym (size-none c.args.word.now c.in_err-size.ensures.none)

pub returns-then-size-eq0 : goal.returns-then-size-eq0
returns-then-size-eq0 c = sym (size-zero c.args.word.now (subst (λ n. IsWritten most_size_digits n c.args.word.now) c.if-size-eq0.true c.in_ok-size.ensures.some.1))

pub returns-else-size-eq0 : goal.returns-else-size-eq0
returns-else-size-eq0 c = sym (size-word c.args.word.now c.in_ok-size.size (positive c.in_ok-size.size c.if-size-eq0.false) c.in_ok-size.ensures.some.0 c.in_ok-size.ensures.some.1)
