use Rattle.std.proofs.Common.{sym, ◌∙◌}
use Rattle.so_env.proofs.PrintLaws.{printing_more}
use Rattle.so_env.proofs.print.print_last.Goals as goal

pub returns-then-failed-clause-text : goal.returns-then-failed-clause-text
returns-then-failed-clause-text g c = λ first text before. printing_more _ first _ c.args.printer.now text _ (sym c.failed.ensures ∙ c.if-failed.true) before
