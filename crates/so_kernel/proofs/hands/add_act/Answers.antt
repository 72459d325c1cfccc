use Rattle.so_code.specs.declared.effect.Move.TheVariants.{Do}
use Rattle.so_kernel.proofs.ActLaws.{moved_fits, moved_running, answer_is}
use Rattle.so_kernel.proofs.HandLaws.{held_acted, held_agent, found_moved}
use Rattle.so_kernel.proofs.hands.add_act.Goals as goal

pub found_turn-found-requires : goal.found_turn-found-requires
found_turn-found-requires c = rw c.scene-scene.ensures.value (held_agent c.args.ledger.now.scene c.args.ledger.now.history _ c.scene-scene.ensures.scene c.scene-scene.ensures.legal c.requires.moved.held)

pub add-requires-clause-found : goal.add-requires-clause-found
add-requires-clause-found c = rw (c.requires.is, c.found_turn-found.ensures, c.scene-scene.ensures.value) (found_moved c.args.ledger.now.scene c.args.ledger.now.history c.args.turn.now (Do c.args.effect) c.requires.moved)

pub add-requires-clause-sent : goal.add-requires-clause-sent
add-requires-clause-sent c = rw c.requires.is c.requires.sent

pub answer-requires-clause-fits : goal.answer-requires-clause-fits
answer-requires-clause-fits c = moved_fits c.args.ledger.now c.args.turn.now c.args.effect c.args.answer c.scene-scene.ensures.scene c.scene-scene.ensures.legal c.requires.moved c.requires.answer

pub answer-requires-clause-running : goal.answer-requires-clause-running
answer-requires-clause-running c = moved_running c.args.ledger.now c.args.turn.now c.args.effect c.scene-scene.ensures.scene c.scene-scene.ensures.legal c.requires.moved

pub returns-clause-held : goal.returns-clause-held
returns-clause-held c =
    rw (c.add.ensures, c.answer.ensures.answered, c.requires.is, ← answer_is c.args.ledger.now c.args.turn.now c.args.effect c.args.answer c.requires.answer) (held_acted c.args.ledger.now c.args.turn.now c.args.effect c.scene-scene.ensures.legal c.requires.moved)
