use Rattle.std.proofs.Common.{sym, ◌∙◌, ap}
use Rattle.sorun.specs.Options.{with_option, with_limit}
use Rattle.sorun.proofs.LimitLaws.{limit_from}
use Rattle.sorun.proofs.options.Options.with.Goals as goal

pub returns-then-eq : goal.returns-then-eq
unfolding with_option
returns-then-eq c = rw (sym c.if-eq.ensures) c.with_trace.ensures

pub returns-else-eq : goal.returns-else-eq
unfolding with_option
returns-else-eq c = rw (sym c.if-eq.ensures) (c.with_limit.ensures ∙ ap (with_limit c.args.self) (limit_from c.args.word.now c.limit_of.result c.limit_of.ensures.some c.limit_of.ensures.none))
