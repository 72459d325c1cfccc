use Rattle.std.proofs.Common.{◌≡◌, ◌<◌, List, subst, rules}
use Rattle.std.specs.Prelude.{◌^◌}
use Rattle.so_ids.specs.declared.DemandId.{DemandId}
use Rattle.so_queue.specs.Queues.{QueueTable, IsAfterAll}
use Rattle.std.proofs.Common.{true}
use Rattle.so_queue.proofs.QueueLaws.{after_list, after_lists}
use Rattle.so_queue.proofs.queues.Queues.may_push.Goals as goal

pub returns : goal.returns
returns c =
    let lists : List (List DemandId) = c.self.inside.cells.lists in
    let few : c.args.demand.k < 2 ^ 32 = search rules in
    let P : QueueTable → Type 0 = λ v. (c.may_push.result ≡ true → (0 < v.room) × IsAfterAll v.lists c.args.demand) × (((0 < v.room) × IsAfterAll v.lists c.args.demand) → c.may_push.result ≡ true) in
    subst P c.self.view_is (
      λ t. (let h = c.may_push.ensures.0 t in (h.0, after_lists lists c.args.demand few h.1)),
      λ h. c.may_push.ensures.1 (h.0, λ s. after_list lists s c.args.demand c.self.invariant.0.apart h.1),
    )
