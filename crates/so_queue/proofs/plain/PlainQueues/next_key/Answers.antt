use Rattle.std.proofs.Common.{◌≡◌, ℕ, ◌*◌, length, sym, subst, rules}
use Rattle.so_queue.specs.Queues.{QueueTable, IsNextKey}
use Rattle.so_queue.specs.Fronts.{height_of_key}
use Rattle.so_queue.specs.Ring.{height, IsLink}
use Rattle.so_queue.specs.Plain.{lists_on}
use Rattle.so_queue.proofs.QueueLaws.{next_key}
use Rattle.so_queue.proofs.plain.PlainQueues.next_key.Goals as goal

pub returns : goal.returns
returns c =
    let n : ℕ = length c.self.inside.safe.items in
    let table : QueueTable = record { lists = lists_on (8 * n) c.self.inside.waiting.items; room = c.self.inside.room; safe = c.self.inside.safe.items; exclusive = c.self.inside.exclusive.items } in
    let all : c.loop-key.key ≡ n = search rules in
    let P : QueueTable → Type 0 = λ v. IsLink (height_of_key v.lists) c.loop-key.key (height c.args.after) c.loop-key.best in
    let link : IsLink (height_of_key table.lists) c.loop-key.key (height c.args.after) c.loop-key.best = subst P (sym c.self.view_is) c.loop-key.invariant in
    let Q : QueueTable → Type 0 = λ v. IsNextKey v c.args.after c.loop-key.best in
    subst Q c.self.view_is (next_key table c.loop-key.key c.args.after c.loop-key.best c.self.invariant.0 all c.requires link)
