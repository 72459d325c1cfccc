use Rattle.std.proofs.Common.{◌≡◌, refl, sym, subst, Some, rules}
use Rattle.std.specs.List.{find}
use Rattle.so_events.specs.Events.{EventTable, is_beside, place_of}
use Rattle.so_events.specs.Tied.{waits_in, waiting_in}
use Rattle.so_events.proofs.NameOrder.{order-filter}
use Rattle.so_events.proofs.CountLaws.{after_less, counts_size, some_counted}
use Rattle.so_events.proofs.RoundTable.{rounds_kept}
use Rattle.so_events.proofs.TiedLaws.{taken, taken_head, waiting_known}
use Rattle.so_events.proofs.events.Events.take.Goals as goal

pub key-key-requires : goal.key-key-requires
key-key-requires c =
    let P : EventTable → Type 0 = λ v. find (is_beside v.scene c.args.demand) v.waiting ≡ Some c.args.demand in
    waiting_known c.self.inside.scene.now c.self.inside.queued.items c.self.inside.queues c.self.inside.room (is_beside c.self.inside.scene.now c.args.demand) c.args.demand c.self.invariant.0 (subst P (sym c.self.view_is) c.requires.first)

pub priority-priority-requires : goal.priority-priority-requires
priority-priority-requires c =
    let P : EventTable → Type 0 = λ v. find (is_beside v.scene c.args.demand) v.waiting ≡ Some c.args.demand in
    waiting_known c.self.inside.scene.now c.self.inside.queued.items c.self.inside.queues c.self.inside.room (is_beside c.self.inside.scene.now c.args.demand) c.args.demand c.self.invariant.0 (subst P (sym c.self.view_is) c.requires.first)

pub take-id-requires-clause-waits : goal.take-id-requires-clause-waits
take-id-requires-clause-waits c =
    let P : EventTable → Type 0 = λ v. find (is_beside v.scene c.args.demand) v.waiting ≡ Some c.args.demand in
    let is = subst P (sym c.self.view_is) c.requires.first in
    let known = waiting_known c.self.inside.scene.now c.self.inside.queued.items c.self.inside.queues c.self.inside.room (is_beside c.self.inside.scene.now c.args.demand) c.args.demand c.self.invariant.0 is in
    let head = taken_head c.self.inside.scene.now c.self.inside.queued.items c.self.inside.queues c.self.inside.room c.args.demand c.self.invariant.0 known is in
    rw (c.key-key.ensures.value, c.priority-priority.ensures, head) (search rules)

pub remove-requires-clause-agent : goal.remove-requires-clause-agent
remove-requires-clause-agent c =
    let P : EventTable → Type 0 = λ v. find (is_beside v.scene c.args.demand) v.waiting ≡ Some c.args.demand in
    waiting_known c.self.inside.scene.now c.self.inside.queued.items c.self.inside.queues c.self.inside.room (is_beside c.self.inside.scene.now c.args.demand) c.args.demand c.self.invariant.0 (subst P (sym c.self.view_is) c.requires.first)

pub remove-requires-clause-size : goal.remove-requires-clause-size
remove-requires-clause-size c = counts_size c.self.inside.scene.now (waiting_in c.self.inside.scene.now c.self.inside.queues.lists c.self.inside.queued.items) c.self.inside.counts c.self.invariant.4

pub remove-requires-clause-waits : goal.remove-requires-clause-waits
remove-requires-clause-waits c =
    let P : EventTable → Type 0 = λ v. find (is_beside v.scene c.args.demand) v.waiting ≡ Some c.args.demand in
    let is = subst P (sym c.self.view_is) c.requires.first in
    let s = c.self.inside.scene.now in
    let known = waiting_known s c.self.inside.queued.items c.self.inside.queues c.self.inside.room (is_beside s c.args.demand) c.args.demand c.self.invariant.0 is in
    some_counted s c.self.inside.counts.firsts.items c.self.inside.counts.waiting.items (waiting_in s c.self.inside.queues.lists c.self.inside.queued.items) c.args.demand c.self.invariant.4.first known c.self.invariant.4.counts
    (order-filter (waits_in s c.self.inside.queues.lists) c.self.inside.queued.items c.self.invariant.0.order) (place_of s c.args.demand) is

pub invariant_of-self : goal.invariant_of-self
invariant_of-self c =
    let P : EventTable → Type 0 = λ v. find (is_beside v.scene c.args.demand) v.waiting ≡ Some c.args.demand in
    let is = subst P (sym c.self.view_is) c.requires.first in
    let known = waiting_known c.self.inside.scene.now c.self.inside.queued.items c.self.inside.queues c.self.inside.room (is_beside c.self.inside.scene.now c.args.demand) c.args.demand c.self.invariant.0 is in
    let t = taken c.self.inside.scene.now c.self.inside.queued.items c.self.inside.queues c.self.inside.room c.args.demand c.self.invariant.0 known is in
    rw (c.take-id.ensures.after, c.key-key.ensures.value, c.priority-priority.ensures, t.waiting) (t.tied, rounds_kept c.self.inside.scene.now c.args.lane c.priority-priority.result c.self.inside.prio _ c.self.invariant.1 c.took.ensures, c.self.invariant.2, c.self.invariant.3, after_less c.self.inside.scene.now (waiting_in c.self.inside.scene.now c.self.inside.queues.lists c.self.inside.queued.items) c.args.demand (place_of c.self.inside.scene.now c.args.demand) c.self.inside.counts c.remove.new.self c.self.invariant.4 known (order-filter (waits_in c.self.inside.scene.now c.self.inside.queues.lists) c.self.inside.queued.items c.self.invariant.0.order) is c.remove.ensures.firsts c.remove.ensures.waiting)

pub returns : goal.returns
returns c =
    let P : EventTable → Type 0 = λ v. find (is_beside v.scene c.args.demand) v.waiting ≡ Some c.args.demand in
    let is = subst P (sym c.self.view_is) c.requires.first in
    let known = waiting_known c.self.inside.scene.now c.self.inside.queued.items c.self.inside.queues c.self.inside.room (is_beside c.self.inside.scene.now c.args.demand) c.args.demand c.self.invariant.0 is in
    let t = taken c.self.inside.scene.now c.self.inside.queued.items c.self.inside.queues c.self.inside.room c.args.demand c.self.invariant.0 known is in
    rw (← c.self.view_is, c.take-id.ensures.after, c.key-key.ensures.value, c.took.ensures, c.priority-priority.ensures, t.waiting) refl
