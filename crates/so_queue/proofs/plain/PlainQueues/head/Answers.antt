use Rattle.std.proofs.Common.{◌*◌, ◌<◌, length, sym, subst}
use Rattle.so_queue.specs.Queues.{QueueTable, keys_of}
use Rattle.so_queue.proofs.PlainLaws.{list_on}
use Rattle.so_queue.proofs.plain.PlainQueues.head.Goals as goal

pub returns : goal.returns
returns c =
    let within : c.args.slot < 8 * length c.self.inside.safe.items = (let P : QueueTable → Type 0 = λ v. c.args.slot < 8 * keys_of v in subst P (sym c.self.view_is) c.requires) in
    rw (← c.self.view_is, list_on (8 * length c.self.inside.safe.items) c.self.inside.waiting.items c.args.slot within) (rw (← c.deref.ensures.value) c.head_on.ensures)
