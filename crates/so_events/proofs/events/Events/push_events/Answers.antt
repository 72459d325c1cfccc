use Rattle.std.proofs.Common.{◌≡◌, ◌<◌, ◌≤◌, ◌+◌, ◌∙◌, length, map, take, ap, arith, refl, subst, sym, true}
use Rattle.std.specs.List.{AllByRecursion}
use Rattle.std.proofs.lemmas.List.{length-append, length-map}
use Rattle.so_ids.specs.declared.DemandId.{DemandId}
use Rattle.so_ids.specs.Ids.{is_earlier}
use Rattle.so_lists.proofs.Filters.{each-append, each-weaker}
use Rattle.so_queue.proofs.OrderLaws.{earlier_at_once}
use Rattle.so_history.specs.declared.entry.Demand.{Demand}
use Rattle.so_history.specs.Demands.{ask, demands_from}
use Rattle.so_history.proofs.NameLaws.{length-demands_from}
use Rattle.so_events.specs.Events.{EventTable}
use Rattle.so_events.proofs.Asking.{events_next, length_taken, past_end, event_known}
use Rattle.so_events.proofs.TiedLaws.{numbers_before}
use Rattle.so_events.proofs.events.Events.push_events.Goals as goal

pub push-requires-clause-agent : goal.push-requires-clause-agent
push-requires-clause-agent c =
    let here = sym c.queued_at.ensures ∙ c.in-Some.is in
    let P : EventTable → Type 0 = λ v. c.in-Some.event.agent.0 < length v.scene.agents in
    rw (c.demand_of.ensures) (subst P (sym c.loop-k.invariant) (event_known (length c.args.self.now.scene.agents) c.args.outcomes.now.queued c.loop-k.k c.in-Some.event here c.requires.agents))

pub push-requires-clause-room : goal.push-requires-clause-room
push-requires-clause-room c =
    let here = sym c.queued_at.ensures ∙ c.in-Some.is in
    let queued = ap (λ (t : EventTable). length t.queued) c.loop-k.invariant in
    let room = ap (λ (t : EventTable). t.room) c.loop-k.invariant in
    omega (
      arith,
      queued,
      room,
      c.requires.room,
      c.loop-k-test.true,
      c.len-k-end.ensures.value,
      length-append c.args.self.now.queued (demands_from c.args.place.0 0 (map ask (take c.loop-k.k c.args.outcomes.now.queued))),
      length-demands_from c.args.place.0 0 (map ask (take c.loop-k.k c.args.outcomes.now.queued)),
      length-map (take c.loop-k.k c.args.outcomes.now.queued) ask,
      length_taken c.args.outcomes.now.queued c.loop-k.k c.in-Some.event here,
    )

pub push-requires-clause-last : goal.push-requires-clause-last
push-requires-clause-last c =
    let here = sym c.queued_at.ensures ∙ c.in-Some.is in
    let id : DemandId = record { place = c.args.place; k = c.loop-k.k } in
    let asked = map ask (take c.loop-k.k c.args.outcomes.now.queued) in
    let few : 0 + length asked ≤ c.loop-k.k = omega (arith, length-map (take c.loop-k.k c.args.outcomes.now.queued) ask, length_taken c.args.outcomes.now.queued c.loop-k.k c.in-Some.event here) in
    let P : EventTable → Type 0 = λ v. AllByRecursion (λ (d : Demand). is_earlier d.id id ≡ true) v.queued in
    rw (c.demand_of.ensures)
    (subst P (sym c.loop-k.invariant)
    (each-append (λ (d : Demand). is_earlier d.id id ≡ true) c.args.self.now.queued (demands_from c.args.place.0 0 asked)
    (each-weaker (λ (d : Demand). d.id.place.0 < c.args.place.0) (λ (d : Demand). is_earlier d.id id ≡ true) (λ d l. earlier_at_once d.id id l) c.args.self.now.queued c.requires.later)
    (numbers_before c.args.place.0 0 c.loop-k.k asked few)))

pub unreachable-requires : goal.unreachable-requires
unreachable-requires c =
    let none = sym c.queued_at.ensures ∙ c.in-None.is in
    past_end c.args.outcomes.now.queued c.loop-k.k (omega (arith, c.loop-k-test.true, c.len-k-end.ensures.value)) none

pub loop-k-preserved : goal.loop-k-preserved
loop-k-preserved c =
    let here = sym c.queued_at.ensures ∙ c.in-Some.is in
    rw (c.push.ensures, c.loop-k.invariant, c.demand_of.ensures, events_next c.args.self.now.queued c.args.place.0 c.args.outcomes.now.queued c.loop-k.k c.in-Some.event here, events_next c.args.self.now.waiting c.args.place.0 c.args.outcomes.now.queued c.loop-k.k c.in-Some.event here) refl
