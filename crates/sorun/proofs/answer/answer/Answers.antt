use Rattle.std.proofs.Common.{Ok, ap, ◌∙◌}
use Rattle.sorun.specs.Commands.{meant}
use Rattle.sorun.specs.declared.commands.Command as declared
use Rattle.sorun.proofs.AnswerLaws.{words_file}
use Rattle.sorun.proofs.answer.answer.Goals as goal

pub returns-in-Ok-OfFile-clause-words : goal.returns-in-Ok-OfFile-clause-words
returns-in-Ok-OfFile-clause-words g c =
    words_file _ c.in-Ok-OfFile.file.now c.in-Ok-OfFile.job _ _ _ _ _ _ _ _
    (c.in-Ok-OfFile.ensures.value ∙ ap (λ (v : declared.Command). Ok (meant v)) c.in-Ok-OfFile.field-0-is) c.answer_file.ensures.file
