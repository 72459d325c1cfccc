use Rattle.std.proofs.Common.{◌≡◌, ◌<◌, List, length, sym, ap, subst, arith}
use Rattle.std.specs.Prelude.{IsSome}
use Rattle.so_ids.specs.declared.DemandId.{DemandId}
use Rattle.so_queue.specs.Queues.{QueueTable, front_of_key, IsNextKey}
use Rattle.so_queue.specs.Ring.{height, height_at}
use Rattle.so_queue.proofs.QueueLaws.{kept_link, next_key, front_small, live_front}
use Rattle.so_queue.proofs.queues.Queues.ready_after.Goals as goal

pub after-requires-clause-live : goal.after-requires-clause-live
after-requires-clause-live c =
    let key : c.args.key.0 < length c.self.inside.ring = omega (arith, c.self.invariant.1.safe_keys, (let P : QueueTable → Type 0 = λ v. c.args.key.0 < length v.safe in subst P (sym c.self.view_is) c.requires.key)) in
    let front : height_at c.self.inside.ring c.args.key.0 ≡ height (front_of_key c.self.inside.cells.lists c.args.key.0) = ap height (c.self.invariant.0.heads c.args.key.0 key) in
    rw front (live_front (front_of_key c.self.inside.cells.lists c.args.key.0) (let P : QueueTable → Type 0 = λ v. IsSome (front_of_key v.lists c.args.key.0) in subst P (sym c.self.view_is) c.requires.waits))

pub returns : goal.returns
returns c =
    let lists : List (List DemandId) = c.self.inside.cells.lists in
    let key : c.args.key.0 < length c.self.inside.ring = omega (arith, c.self.invariant.1.safe_keys, (let P : QueueTable → Type 0 = λ v. c.args.key.0 < length v.safe in subst P (sym c.self.view_is) c.requires.key)) in
    let front : height_at c.self.inside.ring c.args.key.0 ≡ height (front_of_key lists c.args.key.0) = ap height (c.self.invariant.0.heads c.args.key.0 key) in
    let link = kept_link lists c.self.inside.ring (height_at c.self.inside.ring c.args.key.0) c.after.result c.self.invariant.0 c.after.ensures in
    let table : QueueTable = record { lists = c.self.inside.cells.lists; room = c.self.inside.cells.room; safe = c.self.inside.safe.items; exclusive = c.self.inside.exclusive.items } in
    let P : QueueTable → Type 0 = λ v. IsNextKey v (front_of_key v.lists c.args.key.0) c.after.result in
    subst P c.self.view_is (next_key table (length c.self.inside.ring) (front_of_key lists c.args.key.0) c.after.result c.self.invariant.0.apart (sym c.self.invariant.1.safe_keys) (λ e h. front_small lists c.args.key.0 e c.self.invariant.0.apart h) (rw front at link))
