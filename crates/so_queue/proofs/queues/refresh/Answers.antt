use Rattle.std.proofs.Common.{◌≡◌, length, Option, ◌∙◌, ap}
use Rattle.std.specs.Prelude.{slice_set}
use Rattle.std.proofs.lemmas.List.{length-set}
use Rattle.so_ids.specs.declared.DemandId.{DemandId}
use Rattle.so_queue.specs.Queues.{front_of_key}
use Rattle.so_queue.proofs.QueueLaws.{fronts_differ, queues_refreshed}
use Rattle.so_queue.proofs.queues.refresh.Goals as goal

pub set-requires-clause-other : goal.set-requires-clause-other
set-requires-clause-other c = fronts_differ c.args.cells.now.lists c.args.ring.now c.args.key.0 c.least_head-front.result c.requires.but c.least_head-front.ensures

pub returns : goal.returns
returns c =
    let front : Option DemandId = front_of_key c.args.cells.now.lists c.args.key.0 in
    let fronts : c.set.new.self ≡ slice_set c.args.ring.now c.args.key.0 front = c.set.ensures ∙ ap (slice_set c.args.ring.now c.args.key.0) c.least_head-front.ensures in
    record {
      queues = rw fronts (queues_refreshed c.args.cells.now.lists c.args.ring.now c.args.key.0 c.requires.but c.requires.key);
      keys = ap length fronts ∙ length-set c.args.ring.now c.args.key.0 front;
    }
