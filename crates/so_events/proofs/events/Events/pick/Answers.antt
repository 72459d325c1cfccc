use Rattle.std.proofs.Common.{◌≡◌, ◌∙◌, ◌<◌, length, Option, Some, None, refl, sym, ap, subst}
use Rattle.std.specs.List.{AllByRecursion, filter, find}
use Rattle.std.specs.Option.{option_map}
use Rattle.so_ids.specs.declared.DemandId.{DemandId}
use Rattle.so_ids.specs.declared.LaneId.{LaneId}
use Rattle.so_lists.proofs.Filters.{each-filter}
use Rattle.so_scene.specs.declared.lanes.Lane.{Lane}
use Rattle.so_scene.specs.declared.parts.DispDef.{DispDef}
use Rattle.so_scene.specs.Parts.{disp_of}
use Rattle.so_scene.specs.Lanes.{lane_at}
use Rattle.so_history.specs.declared.entry.Demand.{Demand}
use Rattle.so_disp_adv.specs.declared.heads.HeadClass.{HeadClass}
use Rattle.so_queue.specs.Queues.{QueueTable}
use Rattle.so_events.specs.Events.{EventTable, may_take_by}
use Rattle.so_events.specs.Tied.{AreInOrder, id_of, waits_in, waiting_in, IsTied}
use Rattle.so_events.specs.Picked.{picked_on}
use Rattle.so_events.proofs.NameOrder.{order-filter, named_found, nothing_found}
use Rattle.so_events.proofs.PickedLaws.{picked_is}
use Rattle.so_events.proofs.events.Events.pick.Goals as goal

-- what is picked over the queues is what is found
found : (t : EventTable) (q : QueueTable) (class : DemandId → HeadClass) (lane : LaneId) (def : DispDef) (its : Lane) (o : Option DemandId) → IsTied t.scene t.queued t.waiting q t.room → t.waiting ≡ filter (waits_in t.scene q.lists) t.queued →
    t.safe ≡ q.safe → t.exclusive ≡ q.exclusive → its ≡ lane_at t.scene lane → def ≡ disp_of t.scene its.disp → o ≡ picked_on def.kind t.scene q t.rounds class lane → option_map id_of (find (may_take_by t class lane) t.waiting) ≡ o
found t q class lane def its o tied waits safe exclusive at is picks =
    let order = subst AreInOrder (sym waits) (order-filter (waits_in t.scene q.lists) t.queued tied.order) in
    let known = subst (AllByRecursion (λ (x : Demand). x.agent.0 < length t.scene.agents)) (sym waits) (each-filter (λ (x : Demand). x.agent.0 < length t.scene.agents) (waits_in t.scene q.lists) t.queued tied.agents) in
    let kind : (disp_of t.scene (lane_at t.scene lane).disp).kind ≡ def.kind = ap (λ (d : DispDef). d.kind) (sym (is ∙ ap (λ (l : Lane). disp_of t.scene l.disp) at)) in
    sym (picked_is t t.queued q t.room class lane tied order known safe exclusive def.kind kind) ∙ sym picks

pub returns-in-Some : goal.returns-in-Some
returns-in-Some g c =
    let t : EventTable = record {
      scene = c.self.inside.scene.now;
      queued = c.self.inside.queued.items;
      waiting = waiting_in c.self.inside.scene.now c.self.inside.queues.lists c.self.inside.queued.items;
      safe = c.self.inside.queues.safe;
      exclusive = c.self.inside.queues.exclusive;
      rounds = c.self.inside.prio;
      room = c.self.inside.room;
    } in
    let class = g.H.Heads.class c.args.heads.now in
    let is = found t c.self.inside.queues class c.args.lane c.dispatcher.result.now c.lane.result (Some c.in-Some.id) c.self.invariant.0 refl refl refl c.lane.ensures.value c.dispatcher.ensures (sym c.in-Some.is ∙ c.pick_on.ensures) in
    rw (c.named.ensures, ← c.self.view_is) (named_found (may_take_by t class c.args.lane) (waits_in c.self.inside.scene.now c.self.inside.queues.lists) c.self.inside.queued.items c.in-Some.id c.self.invariant.0.order is)

pub returns-in-None : goal.returns-in-None
returns-in-None g c =
    let t : EventTable = record {
      scene = c.self.inside.scene.now;
      queued = c.self.inside.queued.items;
      waiting = waiting_in c.self.inside.scene.now c.self.inside.queues.lists c.self.inside.queued.items;
      safe = c.self.inside.queues.safe;
      exclusive = c.self.inside.queues.exclusive;
      rounds = c.self.inside.prio;
      room = c.self.inside.room;
    } in
    let class = g.H.Heads.class c.args.heads.now in
    let is = found t c.self.inside.queues class c.args.lane c.dispatcher.result.now c.lane.result None c.self.invariant.0 refl refl refl c.lane.ensures.value c.dispatcher.ensures (sym c.in-None.is ∙ c.pick_on.ensures) in
    rw (← c.self.view_is) (sym (nothing_found (may_take_by t class c.args.lane) t.waiting is))
