use Rattle.so_ids.specs.Ids.{party_of}
use Rattle.so_kernel.proofs.HeldLaws.{held_began, begun_added, held_skipped, skip_added}
use Rattle.so_kernel.proofs.steps.step_begin.Goals as goal

pub returns-in-Turn-clause-held : goal.returns-in-Turn-clause-held
returns-in-Turn-clause-held c =
    rw c.put.ensures
    (held_began c.args.kernel.now c.begin.new.self c.args.turns.now _ c.args.lane c.in-Turn.turn c.scene-scene.ensures.legal c.requires.lane c.requires.held c.in-Turn.ensures.answer c.begin.ensures.after)

pub returns-in-Turn-clause-answer : goal.returns-in-Turn-clause-answer
returns-in-Turn-clause-answer c = begun_added c.args.kernel.now c.begin.new.self (party_of c.args.lane) c.args.lane c.in-Turn.turn (rw c.party.ensures at c.in-Turn.ensures.answer)

pub returns-in-Skipped-clause-held : goal.returns-in-Skipped-clause-held
returns-in-Skipped-clause-held c = held_skipped c.args.kernel.now c.begin.new.self c.args.turns.now _ c.args.lane c.scene-scene.ensures.legal c.requires.held (rw c.in-Skipped.is at c.begin.ensures.answer) c.begin.ensures.after

pub returns-in-Skipped-clause-answer : goal.returns-in-Skipped-clause-answer
returns-in-Skipped-clause-answer c = skip_added c.args.kernel.now c.begin.new.self (party_of c.args.lane) c.args.lane (rw (c.party.ensures, c.in-Skipped.is) at c.begin.ensures.answer)
