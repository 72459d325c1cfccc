use Rattle.std.proofs.Common.{sym, subst}
use Rattle.std.proofs.lemmas.Option.{same_Some}
use Rattle.so_history.specs.declared.entry.Entry.{Entry}
use Rattle.so_tables.specs.declared.found.Found.TheVariants as what
use Rattle.so_tables.specs.AfterEvents.{IsSent}
use Rattle.so_tables.specs.Found.{IsFound}
use Rattle.so_ledger.specs.Shapes.{Core}
use Rattle.so_code.specs.declared.effect.Move.TheVariants.{Fail}
use Rattle.so_kernel.specs.Hands.{HasMoved}
use Rattle.so_kernel.proofs.ActLaws.{moves_fail}
use Rattle.so_kernel.proofs.kernel.Kernel.fail.Goals as goal

pub add-requires-clause-found : goal.add-requires-clause-found
add-requires-clause-found c =
    let P : Core → Type 0 = λ k. IsFound k.scene k.history c.in-Ok.entry.kind what.Nothing in
    let E : Entry → Type 0 = λ e. IsFound c.self.inside.ledger.scene c.self.inside.ledger.history e.kind what.Nothing in
    subst P (sym c.in-Ok.ensures.ok) (subst E (same_Some _ c.in-Ok.entry c.in-Ok.ensures.same) tt)

pub add-requires-clause-sent : goal.add-requires-clause-sent
add-requires-clause-sent c =
    let P : Core → Type 0 = λ k. IsSent k.scene k.history c.in-Ok.entry.kind c.self.inside.outcomes.queued in
    let E : Entry → Type 0 = λ e. IsSent c.self.inside.ledger.scene c.self.inside.ledger.history e.kind c.self.inside.outcomes.queued in
    subst P (sym c.in-Ok.ensures.ok) (subst E (same_Some _ c.in-Ok.entry c.in-Ok.ensures.same) tt)

pub gate-requires : goal.gate-requires
gate-requires c =
    let M : Core → Type 0 = λ k. HasMoved k.scene k.history c.args.turn.now (Fail c.args.kind) in
    moves_fail c.self.inside.ledger.scene c.self.inside.ledger.history c.args.turn.now c.args.kind (subst M (sym c.self.view_is) c.requires.moved)
