use Rattle.std.proofs.Common.{length, None, sym, subst}
use Rattle.so_queue.specs.Queues.{QueueTable, IsNextKey}
use Rattle.so_queue.proofs.QueueLaws.{kept_link, next_key}
use Rattle.so_queue.proofs.queues.Queues.ready.Goals as goal

pub returns : goal.returns
returns c =
    let link = kept_link c.self.inside.cells.lists c.self.inside.ring 0 c.first.result c.self.invariant.0 c.first.ensures in
    let table : QueueTable = record { lists = c.self.inside.cells.lists; room = c.self.inside.cells.room; safe = c.self.inside.safe.items; exclusive = c.self.inside.exclusive.items } in
    let P : QueueTable → Type 0 = λ v. IsNextKey v None c.first.result in
    subst P c.self.view_is (next_key table (length c.self.inside.ring) None c.first.result c.self.invariant.0.apart (sym c.self.invariant.1.safe_keys) (λ e h. cc) link)
