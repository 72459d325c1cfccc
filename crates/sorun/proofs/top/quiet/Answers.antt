use Rattle.sorun.proofs.ExactLaws.{exact, facts}
use Rattle.sorun.proofs.FaultLaws.{are_read}
use Rattle.sorun.proofs.top.quiet.Goals as goal

pub returns-clause-exact : goal.returns-clause-exact
returns-clause-exact g c = exact c.answer-report.result _ _ _ _ _ _ _ _ c.answer-report.ensures.words

pub returns-clause-usage : goal.returns-clause-usage
returns-clause-usage g c = λ k.
    let told = (exact c.answer-report.result _ _ _ _ _ _ _ _ c.answer-report.ensures.words).usage k in
    let read = (are_read _).fault k in
    (λ is. read.0 (told.0 is), λ at. told.1 (read.1 at))

pub returns-clause-sentences : goal.returns-clause-sentences
returns-clause-sentences g c = are_read _

pub returns-clause-facts : goal.returns-clause-facts
returns-clause-facts g c = facts _ _ c.answer-report.result _ _ _ _ _ _ c.answer-report.ensures.words
