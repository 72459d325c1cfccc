use Rattle.so_kernel.proofs.HeldLaws.{fail_stepped}
use Rattle.so_kernel.proofs.steps.step_fail.Goals as goal

pub fail-ended-requires : goal.fail-ended-requires
fail-ended-requires c = record { moved = record { before = c.args.before.now; held = c.requires.held; moves = c.requires.moves } }

pub returns : goal.returns
returns c =
    λ ts held.
    rw (c.after_end.ensures.answer, c.after_end.ensures.left, c.fail-ended.ensures.answer)
    (fail_stepped c.args.kernel.now c.fail-ended.new.self ts c.args.lane.0 c.args.turn.now c.args.before.now c.scene-scene.ensures.scene c.scene-scene.ensures.legal c.requires.lane held c.args.kind c.requires.moves c.fail-ended.ensures.after)
