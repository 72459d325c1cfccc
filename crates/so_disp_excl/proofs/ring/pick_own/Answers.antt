use Rattle.std.proofs.Common.{◌≡◌, ◌<◌, ◌∙◌, arith}
use Rattle.so_scene.specs.Lanes.{keys}
use Rattle.so_disp_excl.proofs.OwnLaws.{own_front, own_past}
use Rattle.so_disp_excl.proofs.ring.pick_own.Goals as goal

pub returns-then-agent-keys : goal.returns-then-agent-keys
returns-then-agent-keys c =
    let count : c.keys.result ≡ keys c.args.scene.now = c.keys.ensures.value in
    c.open_front.ensures ∙ own_front c.args.scene.now c.args.queues.now c.args.lane c.args.agent c.requires.own (rw (← count) c.if-agent-keys.true)

pub returns-else-agent-keys : goal.returns-else-agent-keys
returns-else-agent-keys c =
    let count : c.keys.result ≡ keys c.args.scene.now = c.keys.ensures.value in
    own_past c.args.scene.now c.args.queues.now c.args.lane c.args.agent c.requires.own (λ below. let less : c.args.agent.0 < c.keys.result = rw count below in omega (arith, less, c.if-agent-keys.false))
