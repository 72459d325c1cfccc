use Rattle.std.proofs.Common.{◌≡◌, ◌<◌, length, refl, sym, arith, subst, true}
use Rattle.std.specs.List.{AllByRecursion}
use Rattle.so_ids.specs.Ids.{is_earlier}
use Rattle.so_lists.proofs.Filters.{filter-short}
use Rattle.so_history.specs.declared.entry.Demand.{Demand}
use Rattle.so_events.specs.Events.{EventTable}
use Rattle.so_events.specs.Tied.{waits_in, waiting_in}
use Rattle.so_events.specs.Counts.{first_for}
use Rattle.so_events.proofs.CountLaws.{after_more, counts_size, first_within, few_counted}
use Rattle.so_events.proofs.TiedLaws.{pushed, room_to_push, among_queued}
use Rattle.so_events.proofs.events.Events.push.Goals as goal

pub queue_demand-requires-clause-room : goal.queue_demand-requires-clause-room
queue_demand-requires-clause-room c =
    let P : EventTable → Type 0 = λ v. length v.queued < v.room in
    let few = subst P (sym c.self.view_is) c.requires.room in
    let room = room_to_push c.self.inside.scene.now c.self.inside.queued.items c.self.inside.queues c.self.inside.room 1 c.self.invariant.0 (omega (arith, few)) in
    omega (arith, room)

pub queue_demand-requires-clause-last : goal.queue_demand-requires-clause-last
queue_demand-requires-clause-last c =
    let Q : EventTable → Type 0 = λ v. AllByRecursion (λ (d : Demand). is_earlier d.id c.args.demand.id ≡ true) v.queued in
    among_queued (λ e. is_earlier e c.args.demand.id ≡ true) c.self.inside.scene.now c.self.inside.queued.items c.self.inside.queues c.self.inside.room c.self.invariant.0 (subst Q (sym c.self.view_is) c.requires.last)

pub add-requires-clause-size : goal.add-requires-clause-size
add-requires-clause-size c = counts_size c.self.inside.scene.now (waiting_in c.self.inside.scene.now c.self.inside.queues.lists c.self.inside.queued.items) c.self.inside.counts c.self.invariant.4

pub add-requires-clause-room : goal.add-requires-clause-room
add-requires-clause-room c =
    let K : EventTable → Type 0 = λ v. c.args.demand.agent.0 < length v.scene.agents in
    let P : EventTable → Type 0 = λ v. length v.queued < v.room in
    let few = subst P (sym c.self.view_is) c.requires.room in
    let s = c.self.inside.scene.now in
    let counts = c.self.inside.counts in
    let waiting = waiting_in s c.self.inside.queues.lists c.self.inside.queued.items in
    let within = first_within s counts.firsts.items c.args.demand c.self.invariant.4.first (subst K (sym c.self.view_is) c.requires.agent) in
    omega (arith, few, c.self.invariant.3, few_counted s counts.firsts.items counts.waiting.items waiting (first_for s counts.firsts.items c.args.demand.agent) c.self.invariant.4.counts within, filter-short (waits_in s c.self.inside.queues.lists) c.self.inside.queued.items)

pub invariant_of-self : goal.invariant_of-self
invariant_of-self c =
    let K : EventTable → Type 0 = λ v. c.args.demand.agent.0 < length v.scene.agents in
    let P : EventTable → Type 0 = λ v. length v.queued < v.room in
    let Q : EventTable → Type 0 = λ v. AllByRecursion (λ (d : Demand). is_earlier d.id c.args.demand.id ≡ true) v.queued in
    let p = pushed c.self.inside.scene.now c.self.inside.queued.items c.self.inside.queues c.self.inside.room c.args.demand c.self.invariant.0 (subst K (sym c.self.view_is) c.requires.agent) (subst P (sym c.self.view_is) c.requires.room) (subst Q (sym c.self.view_is) c.requires.last) in
    rw (c.push_reserved.ensures.items, c.queue_demand.ensures, p.waiting) (
      p.tied,
      c.self.invariant.1,
      omega (arith, c.push_reserved.ensures.capacity, c.self.invariant.2),
      c.self.invariant.3,
      after_more c.self.inside.scene.now (waiting_in c.self.inside.scene.now c.self.inside.queues.lists c.self.inside.queued.items) c.args.demand c.self.inside.counts c.add.new.self c.self.invariant.4 (subst K (sym c.self.view_is) c.requires.agent) c.add.ensures.firsts c.add.ensures.waiting,
    )

pub returns : goal.returns
returns c =
    let K : EventTable → Type 0 = λ v. c.args.demand.agent.0 < length v.scene.agents in
    let P : EventTable → Type 0 = λ v. length v.queued < v.room in
    let Q : EventTable → Type 0 = λ v. AllByRecursion (λ (d : Demand). is_earlier d.id c.args.demand.id ≡ true) v.queued in
    let p = pushed c.self.inside.scene.now c.self.inside.queued.items c.self.inside.queues c.self.inside.room c.args.demand c.self.invariant.0 (subst K (sym c.self.view_is) c.requires.agent) (subst P (sym c.self.view_is) c.requires.room) (subst Q (sym c.self.view_is) c.requires.last) in
    rw (← c.self.view_is, c.push_reserved.ensures.items, c.queue_demand.ensures, p.waiting) refl
