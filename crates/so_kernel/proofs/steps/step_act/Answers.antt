use Rattle.std.proofs.Common.{◌∙◌}
use Rattle.so_kernel.proofs.HeldLaws.{act_stepped}
use Rattle.so_kernel.proofs.steps.step_act.Goals as goal

pub act-acted-requires : goal.act-acted-requires
act-acted-requires c = record { moved = record { before = c.args.before.now; held = c.requires.held; moves = c.requires.moves } }

pub returns : goal.returns
returns c =
    λ ts held.
    rw (c.after_act.ensures.answer, c.after_act.ensures.left, c.act-acted.ensures.answer)
    (act_stepped c.args.kernel.now c.act-acted.new.self ts c.args.lane.0 c.args.turn.now c.args.before.now c.scene-scene.ensures.scene c.scene-scene.ensures.legal c.requires.lane held c.act-acted.new.turn c.args.effect c.requires.moves c.act-acted.ensures.after c.act-acted.ensures.turn (λ went. c.act-acted.ensures.held (c.act-acted.ensures.answer ∙ went)))
