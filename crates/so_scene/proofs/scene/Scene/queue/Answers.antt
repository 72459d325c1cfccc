use Rattle.std.proofs.Common.{◌<◌, ◌∙◌, ap, sym, subst, length}
use Rattle.so_scene.specs.declared.lanes.Queue.{Queue}
use Rattle.so_scene.proofs.LaneLaws.{agent_there, length-queues, queues-queue, bound}
use Rattle.so_scene.proofs.scene.Scene.queue.Goals as goal

pub queue-requires : goal.queue-requires
queue-requires c = agent_there c.args.self.now c.self.inside.parts c.self.inside.layout.queues.items c.args.agent.0 (sym c.self.view_is) (ap length c.self.invariant.1.queues ∙ length-queues c.self.inside.parts) c.requires

pub returns : goal.returns
returns c =
    let value = c.queue.ensures ∙ queues-queue c.args.self.now c.self.inside.parts c.self.inside.layout.queues.items c.args.agent (sym c.self.view_is) c.self.invariant.1.queues c.requires in
    let P : Queue → Type 0 = λ q. q.disp.0 < length c.args.self.now.dispatchers in
    record {
      value = value;
      range = subst P (sym value) ((bound c.args.self.now c.parts-parts.ensures.keeps).agents c.args.agent c.requires);
    }
