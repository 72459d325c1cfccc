use Rattle.std.proofs.Common.{◌≡◌, ℕ, ◌<◌, ◌≤◌, length, None, arith, rules, refl}
use Rattle.std.specs.Prelude.{vec_len, slice_index_or}
use Rattle.std.specs.List.{find}
use Rattle.so_ids.specs.declared.DemandId.{DemandId}
use Rattle.so_lists.proofs.Filters.{each-filter}
use Rattle.so_scene.specs.Lanes.{lanes}
use Rattle.so_disp_adv.specs.declared.heads.HeadClass.{HeadClass}
use Rattle.so_history.specs.declared.entry.Demand.{Demand}
use Rattle.so_queue.specs.Queues.{QueueTable}
use Rattle.so_events.specs.declared.counts.LaneCounts.{LaneCounts}
use Rattle.so_events.specs.Counts.{IsCounted}
use Rattle.so_events.specs.Events.{EventTable, may_take_by}
use Rattle.so_events.specs.Tied.{waits_in, waiting_in, IsTied}
use Rattle.so_events.proofs.CountLaws.{counts_size, none_before, none_taken}
use Rattle.so_events.proofs.events.Events.first_lane.Goals as goal

-- no lane before one whose counts are none so far may take a demand
nothing_before : (t : EventTable) (q : QueueTable) (counts : LaneCounts) (n : ℕ) → IsTied t.scene t.queued (waiting_in t.scene q.lists t.queued) q t.room → IsCounted t.scene (waiting_in t.scene q.lists t.queued) counts → t.waiting ≡ waiting_in t.scene q.lists t.queued →
    n ≤ lanes t.scene → ((j : ℕ) → j < n → slice_index_or counts.waiting.items j 0 ≡ 0) → (l : ℕ) → l < n → (class : DemandId → HeadClass) → find (may_take_by t class (record { 0 = l })) t.waiting ≡ None
nothing_before t q counts n tied counted is within none l before class =
    let waiting = waiting_in t.scene q.lists t.queued in
    let known = each-filter (λ (x : Demand). x.agent.0 < length t.scene.agents) (waits_in t.scene q.lists) t.queued tied.agents in
    none_taken t counts.firsts.items l n class counted.first (rw is known) before (rw is (none_before t.scene waiting counts n counted within none))

pub index-requires : goal.index-requires
index-requires c =
    let size : vec_len c.self.inside.counts.waiting ≡ length c.self.inside.counts.waiting.items = search rules in
    omega (arith, size, counts_size c.self.inside.scene.now (waiting_in c.self.inside.scene.now c.self.inside.queues.lists c.self.inside.queued.items) c.self.inside.counts c.self.invariant.4, c.loop-lane-test.true, c.lanes-lanes.ensures.value)

pub returns-then-index-gt0-clause-none : goal.returns-then-index-gt0-clause-none
returns-then-index-gt0-clause-none c =
    let t : EventTable = record {
      scene = c.self.inside.scene.now;
      queued = c.self.inside.queued.items;
      waiting = waiting_in c.self.inside.scene.now c.self.inside.queues.lists c.self.inside.queued.items;
      safe = c.self.inside.queues.safe;
      exclusive = c.self.inside.queues.exclusive;
      rounds = c.self.inside.prio;
      room = c.self.inside.room;
    } in
    rw (← c.self.view_is) (nothing_before t c.self.inside.queues c.self.inside.counts c.loop-lane.lane c.self.invariant.0 c.self.invariant.4 refl (omega (arith, c.loop-lane-test.true, c.lanes-lanes.ensures.value)) c.loop-lane.invariant)

pub returns-clause-none : goal.returns-clause-none
returns-clause-none c =
    let t : EventTable = record {
      scene = c.self.inside.scene.now;
      queued = c.self.inside.queued.items;
      waiting = waiting_in c.self.inside.scene.now c.self.inside.queues.lists c.self.inside.queued.items;
      safe = c.self.inside.queues.safe;
      exclusive = c.self.inside.queues.exclusive;
      rounds = c.self.inside.prio;
      room = c.self.inside.room;
    } in
    rw (← c.self.view_is) (λ l before class. nothing_before t c.self.inside.queues c.self.inside.counts c.lanes-lanes.result c.self.invariant.0 c.self.invariant.4 refl (omega (arith, c.lanes-lanes.ensures.value)) (λ j within. c.loop-lane.invariant j (omega (arith, within, c.loop-lane-test.false))) l before class)
