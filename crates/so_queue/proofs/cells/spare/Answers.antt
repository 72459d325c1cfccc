use Rattle.std.proofs.Common.{◌≡◌, length, arith, refl, ap}
use Rattle.so_queue.proofs.SpareLaws.{made_spare, same_lists}
use Rattle.so_queue.proofs.cells.spare.Goals as goal

pub returns-clause-index : goal.returns-clause-index
returns-clause-index c = λ queues k.
    let none : length c.args.free.now.items ≡ 0 = omega (arith, c.if-as_slice-gt0.false, ap length c.as_slice.ensures.value) in
    rw (c.push_reserved-2.ensures.items, c.push_reserved.ensures.items, c.as_slice-2.ensures.value) (made_spare c.args.cells.now.items c.args.free.now.items _ queues refl refl none k)

pub returns-clause-lists : goal.returns-clause-lists
returns-clause-lists c = λ queues k. rw (c.push_reserved-2.ensures.items) (same_lists c.args.cells.now.items c.args.free.now.items _ queues k)
