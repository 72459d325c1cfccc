use Rattle.std.proofs.Common.{◌≡◌, ◌<◌, length, ap, arith, refl, subst, sym, true}
use Rattle.std.specs.List.{AllByRecursion}
use Rattle.std.proofs.lemmas.List.{length-append}
use Rattle.so_ids.specs.declared.DemandId.{DemandId}
use Rattle.so_ids.specs.Ids.{is_earlier}
use Rattle.so_lists.proofs.Filters.{each-append, each-weaker}
use Rattle.so_queue.proofs.OrderLaws.{earlier_at_once}
use Rattle.so_scene.specs.Parts.{agents_from}
use Rattle.so_history.specs.declared.entry.Demand.{Demand}
use Rattle.so_history.specs.Demands.{ask_each, demands_from}
use Rattle.so_events.specs.Events.{EventTable}
use Rattle.so_events.proofs.Asking.{length-demands_asked, length-asked_from, queue_next, queue_none}
use Rattle.so_events.proofs.TiedLaws.{numbers_before}
use Rattle.so_events.proofs.events.Events.push_each.Goals as goal

pub loop-k-init : goal.loop-k-init
loop-k-init c = rw (queue_none c.args.self.now.queued c.args.place.0 c.args.kind c.args.first, queue_none c.args.self.now.waiting c.args.place.0 c.args.kind c.args.first) refl

pub push-requires-clause-room : goal.push-requires-clause-room
push-requires-clause-room c =
    let queued = ap (λ (t : EventTable). length t.queued) c.loop-k.invariant in
    let room = ap (λ (t : EventTable). t.room) c.loop-k.invariant in
    omega (arith, queued, room, c.requires.room, c.loop-k-test.true, length-append c.args.self.now.queued (demands_from c.args.place.0 0 (ask_each c.args.kind (agents_from c.args.first c.loop-k.k))), length-demands_asked c.args.place.0 c.args.kind c.args.first c.loop-k.k)

pub push-requires-clause-last : goal.push-requires-clause-last
push-requires-clause-last c =
    let id : DemandId = record { place = c.args.place; k = c.loop-k.k } in
    let more = demands_from c.args.place.0 0 (ask_each c.args.kind (agents_from c.args.first c.loop-k.k)) in
    let P : EventTable → Type 0 = λ v. AllByRecursion (λ (d : Demand). is_earlier d.id id ≡ true) v.queued in
    subst P (sym c.loop-k.invariant)
    (each-append (λ (d : Demand). is_earlier d.id id ≡ true) c.args.self.now.queued more
    (each-weaker (λ (d : Demand). d.id.place.0 < c.args.place.0) (λ (d : Demand). is_earlier d.id id ≡ true) (λ d l. earlier_at_once d.id id l) c.args.self.now.queued c.requires.later)
    (numbers_before c.args.place.0 0 c.loop-k.k (ask_each c.args.kind (agents_from c.args.first c.loop-k.k)) (omega (arith, length-asked_from c.args.kind c.args.first c.loop-k.k))))

pub loop-k-preserved : goal.loop-k-preserved
loop-k-preserved c = rw (c.push.ensures, c.loop-k.invariant, ← (queue_next c.args.self.now.queued c.args.place.0 c.args.kind c.args.first c.loop-k.k), ← (queue_next c.args.self.now.waiting c.args.place.0 c.args.kind c.args.first c.loop-k.k)) refl
