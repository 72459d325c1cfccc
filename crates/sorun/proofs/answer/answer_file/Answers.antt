use Rattle.sorun.specs.Answers.{was_read}
use Rattle.sorun.proofs.AnswerLaws.{told_read}
use Rattle.sorun.proofs.answer.answer_file.Goals as goal

pub returns-in-Ok-clause-file : goal.returns-in-Ok-clause-file
returns-in-Ok-clause-file g c =
    was_read c.in-Ok.bytes.items (told_read (λ v. v.items) _ c.in-Ok.bytes c.in-Ok.ensures.bytes) (rw (← c.deref.ensures.value) c.answer_bytes.ensures.scene)
