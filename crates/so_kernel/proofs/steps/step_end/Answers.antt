use Rattle.so_kernel.proofs.HeldLaws.{end_stepped}
use Rattle.so_kernel.proofs.steps.step_end.Goals as goal

pub end-ended-requires : goal.end-ended-requires
end-ended-requires c = record { moved = record { before = c.args.before.now; held = c.requires.held; moves = c.requires.moves } }

pub returns : goal.returns
returns c =
    λ ts held.
    rw (c.after_end.ensures.answer, c.after_end.ensures.left, c.end-ended.ensures.answer)
    (end_stepped c.args.kernel.now c.end-ended.new.self ts c.args.lane.0 c.args.turn.now c.args.before.now c.scene-scene.ensures.scene c.scene-scene.ensures.legal c.requires.lane held c.requires.moves c.end-ended.ensures.after)
