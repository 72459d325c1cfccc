use Rattle.std.proofs.Common.{sym, subst}
use Rattle.std.proofs.lemmas.Option.{same_Some}
use Rattle.so_code.specs.declared.effect.Move.TheVariants.{Done}
use Rattle.so_history.specs.declared.entry.Entry.{Entry}
use Rattle.so_tables.specs.declared.found.Found.TheVariants as what
use Rattle.so_tables.specs.AfterEvents.{IsSent}
use Rattle.so_tables.specs.Found.{IsFound}
use Rattle.so_ledger.specs.Shapes.{Core}
use Rattle.so_kernel.specs.Hands.{HasMoved}
use Rattle.so_kernel.proofs.ActLaws.{moves_end}
use Rattle.so_kernel.proofs.HandLaws.{held_agent, found_moved}
use Rattle.so_kernel.proofs.kernel.Kernel.end.Goals as goal

pub found_turn-found-requires : goal.found_turn-found-requires
found_turn-found-requires c =
    let M : Core → Type 0 = λ k. HasMoved k.scene k.history c.args.turn.now Done in
    let moved = subst M (sym c.self.view_is) c.requires.moved in
    rw c.scene.ensures.value (held_agent c.self.inside.ledger.scene c.self.inside.ledger.history _ c.scene.ensures.scene c.scene.ensures.legal moved.held)

pub add-requires-clause-found : goal.add-requires-clause-found
add-requires-clause-found c =
    let s = c.self.inside.ledger.scene in
    let h = c.self.inside.ledger.history in
    let M : Core → Type 0 = λ k. HasMoved k.scene k.history c.args.turn.now Done in
    let P : Core → Type 0 = λ k. IsFound k.scene k.history c.in-Ok.entry.kind (what.Turn c.found_turn-found.result) in
    let E : Entry → Type 0 = λ e. IsFound s h e.kind (what.Turn c.found_turn-found.result) in
    subst P (sym c.in-Ok.ensures.ok) (subst E (same_Some _ c.in-Ok.entry c.in-Ok.ensures.same) (rw (c.found_turn-found.ensures, c.scene.ensures.value) (found_moved s h c.args.turn.now Done (subst M (sym c.self.view_is) c.requires.moved))))

pub add-requires-clause-sent : goal.add-requires-clause-sent
add-requires-clause-sent c =
    let P : Core → Type 0 = λ k. IsSent k.scene k.history c.in-Ok.entry.kind c.self.inside.outcomes.queued in
    let E : Entry → Type 0 = λ e. IsSent c.self.inside.ledger.scene c.self.inside.ledger.history e.kind c.self.inside.outcomes.queued in
    subst P (sym c.in-Ok.ensures.ok) (subst E (same_Some _ c.in-Ok.entry c.in-Ok.ensures.same) tt)

pub gate-requires : goal.gate-requires
gate-requires c =
    let M : Core → Type 0 = λ k. HasMoved k.scene k.history c.args.turn.now Done in
    moves_end c.self.inside.ledger.scene c.self.inside.ledger.history c.args.turn.now (subst M (sym c.self.view_is) c.requires.moved)
