use Rattle.std.proofs.Common.{arith, sym, ◌∙◌}
use Rattle.so_lists.proofs.EachBelow.{each_below-none, each_below-next}
use Rattle.so_scene.specs.Lanes.{queue_at}
use Rattle.so_scene.proofs.lanes.queues_of.Goals as goal

pub loop-agent-init : goal.loop-agent-init
loop-agent-init c = c.new-queues.ensures.items ∙ sym (each_below-none (queue_at c.args.parts.now))

pub loop-agent-preserved : goal.loop-agent-preserved
loop-agent-preserved c = grind (arith, c.push.ensures.items, c.push.ensures.value_returned, c.loop-agent.invariant, c.queue.ensures, each_below-next (queue_at c.args.parts.now) c.loop-agent.agent, c.if-is_err.ensures.value, c.if-is_err.false)
