use Rattle.std.proofs.Common.{sym, ◌∙◌, ap, subst}
use Rattle.so_history_laws.proofs.ChainLaws.{tidied}
use Rattle.so_tables.specs.declared.found.Found.TheVariants as what
use Rattle.so_tables.specs.AfterEvents.{IsSent}
use Rattle.so_tables.specs.Found.{IsFound}
use Rattle.so_ledger.specs.Shapes.{Core}
use Rattle.so_ledger.specs.Gates.{gated}
use Rattle.so_kernel.specs.Answers.{step_answers}
use Rattle.so_kernel.proofs.AnswerLaws.{added_tidied}
use Rattle.so_kernel.proofs.HandLaws.{found_tidied, sent_tidied}
use Rattle.so_kernel.proofs.kernel.Kernel.tidy.Goals as goal

pub add-requires-clause-found : goal.add-requires-clause-found
add-requires-clause-found c =
    let k = c.self.inside.ledger in
    let P : Core → Type 0 = λ k. IsFound k.scene k.history c.in-Ok.entry.kind what.Nothing in
    subst P (sym c.in-Ok.ensures.ok) (found_tidied k.scene k.history c.in-Ok.entry.kind (tidied k.scene k.history c.in-Ok.entry (sym c.tidying-next.ensures.value ∙ c.in-Ok.ensures.same)))

pub add-requires-clause-sent : goal.add-requires-clause-sent
add-requires-clause-sent c =
    let k = c.self.inside.ledger in
    let P : Core → Type 0 = λ k. IsSent k.scene k.history c.in-Ok.entry.kind c.self.inside.outcomes.queued in
    subst P (sym c.in-Ok.ensures.ok) (sent_tidied k.scene k.history c.in-Ok.entry.kind c.self.inside.outcomes.queued (tidied k.scene k.history c.in-Ok.entry (sym c.tidying-next.ensures.value ∙ c.in-Ok.ensures.same)))

pub returns-in-Ok-clause-answer : goal.returns-in-Ok-clause-answer
returns-in-Ok-clause-answer c =
    let k = c.self.inside.ledger in
    rw (← c.self.view_is)
    (added_tidied c.in-Ok.entry.kind (tidied k.scene k.history c.in-Ok.entry (sym c.tidying-next.ensures.value ∙ c.in-Ok.ensures.same))
    ∙ ap step_answers (sym c.in-Ok.is ∙ (c.gate.ensures.value ∙ ap (gated k) c.tidying-next.ensures.value)))
