use Rattle.std.proofs.Common.{rules, ◌≡◌, arith, ◌∙◌, ap, length}
use Rattle.so_scene.specs.Lanes.{numbered}
use Rattle.so_scene.proofs.LaneLaws.{length-queues, numbered-queues}
use Rattle.so_scene.proofs.lanes.Layout.of.Goals as goal

pub keys_of-requires : goal.keys_of-requires
keys_of-requires c =
    let all : c.as_slice.result.now ≡ c.in_ok-queues.queues.items = search rules in
    omega (arith, ap length all, ap length c.in_ok-queues.ensures, length-queues c.args.parts.now, c.requires.few)

pub returns : goal.returns
returns c =
    let all : c.as_slice.result.now ≡ c.in_ok-queues.queues.items = search rules in
    record {
      queues = c.in_ok-queues.ensures;
      keys = c.in_ok-keys.ensures ∙ ap numbered (all ∙ c.in_ok-queues.ensures) ∙ numbered-queues c.args.parts.now;
      lanes = c.in_ok-lanes.ensures;
    }
