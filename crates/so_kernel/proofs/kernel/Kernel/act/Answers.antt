use Rattle.std.proofs.Common.{sym, subst}
use Rattle.so_code.specs.declared.effect.Move.TheVariants.{Do}
use Rattle.so_ledger.specs.Shapes.{Core}
use Rattle.so_kernel.specs.Hands.{HasMoved}
use Rattle.so_kernel.proofs.ActLaws.{moved_named, moves_act}
use Rattle.so_kernel.proofs.HandLaws.{held_agent}
use Rattle.so_kernel.proofs.kernel.Kernel.act.Goals as goal

pub answer_to-answer-requires-clause-agent : goal.answer_to-answer-requires-clause-agent
answer_to-answer-requires-clause-agent c =
    let M : Core → Type 0 = λ k. HasMoved k.scene k.history c.args.turn.now (Do c.args.effect) in
    let moved = subst M (sym c.self.view_is) c.requires.moved in
    held_agent c.self.inside.ledger.scene c.self.inside.ledger.history _ c.scene-scene.ensures.scene c.scene-scene.ensures.legal moved.held

pub answer_to-answer-requires-clause-named : goal.answer_to-answer-requires-clause-named
answer_to-answer-requires-clause-named c =
    let M : Core → Type 0 = λ k. HasMoved k.scene k.history c.args.turn.now (Do c.args.effect) in
    moved_named c.self.inside.ledger c.args.turn.now c.args.effect c.scene-scene.ensures.scene c.scene-scene.ensures.legal (subst M (sym c.self.view_is) c.requires.moved)

pub gate-requires : goal.gate-requires
gate-requires c =
    let M : Core → Type 0 = λ k. HasMoved k.scene k.history c.args.turn.now (Do c.args.effect) in
    moves_act c.self.inside.ledger.scene c.self.inside.ledger.history c.args.turn.now c.args.effect c.answer_to-answer.result (subst M (sym c.self.view_is) c.requires.moved) c.answer_to-answer.ensures.value
