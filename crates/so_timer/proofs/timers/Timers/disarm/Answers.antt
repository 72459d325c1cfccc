use Rattle.std.proofs.Common.{◌≡◌, ◌<◌, length, arith, rules, ap, ◌∙◌, subst, refl, Some, None}
use Rattle.std.specs.Prelude.{slice_index_or, slice_set}
use Rattle.so_timer.specs.Heap.{due_at}
use Rattle.so_timer.specs.declared.timer.Armed.{Armed}
use Rattle.so_timer.specs.Timers.{TimerTable, timer_of, without, fired}
use Rattle.so_timer.specs.Slots.{armed_from}
use Rattle.so_timer.proofs.TimerLaws.{without-set}
use Rattle.so_timer.proofs.IndexLaws.{index_taken, found, single_fired}
use Rattle.std.proofs.lemmas.List.{get_or_read, length-set}
use Rattle.so_timer.proofs.timers.Timers.disarm.Goals as goal

pub index-at-requires : goal.index-at-requires
index-at-requires c =
    let f = found c.args.timer.0 c.self.inside.slots.items c.self.inside.places.items c.self.inside.heap.items c.args.self.now (ap (λ (v : TimerTable). v.armed) c.self.view_is) c.requires.armed c.self.invariant.0 in
    let l = f.places_in in
    search rules

pub take_out-requires-clause-within : goal.take_out-requires-clause-within
take_out-requires-clause-within c =
    let f = found c.args.timer.0 c.self.inside.slots.items c.self.inside.places.items c.self.inside.heap.items c.args.self.now (ap (λ (v : TimerTable). v.armed) c.self.view_is) c.requires.armed c.self.invariant.0 in
    let is : c.index-at.result.now ≡ slice_index_or c.self.inside.places.items c.args.timer.0 0 = get_or_read c.self.inside.places.items c.args.timer.0 c.index-at.result.now f.places_in c.index-at.ensures 0 in
    let within : c.index-at.result.now < length c.self.inside.heap.items = rw is f.heap_in in
    search rules

pub index_mut-requires : goal.index_mut-requires
index_mut-requires c =
    let f = found c.args.timer.0 c.self.inside.slots.items c.self.inside.places.items c.self.inside.heap.items c.args.self.now (ap (λ (v : TimerTable). v.armed) c.self.view_is) c.requires.armed c.self.invariant.0 in
    let l = f.slots_in in
    search rules

pub invariant_of-self : goal.invariant_of-self
invariant_of-self c =
    let f = found c.args.timer.0 c.self.inside.slots.items c.self.inside.places.items c.self.inside.heap.items c.args.self.now (ap (λ (v : TimerTable). v.armed) c.self.view_is) c.requires.armed c.self.invariant.0 in
    let is : c.index-at.result.now ≡ slice_index_or c.self.inside.places.items c.args.timer.0 0 = get_or_read c.self.inside.places.items c.args.timer.0 c.index-at.result.now f.places_in c.index-at.ensures 0 in
    let within : c.index-at.result.now < length c.self.inside.heap.items = rw is f.heap_in in
    let here : (due_at c.self.inside.heap.items c.index-at.result.now).timer.0 ≡ c.args.timer.0 = ap (λ i. (due_at c.self.inside.heap.items i).timer.0) is ∙ f.here in
    let index = index_taken c.self.inside.slots.items c.self.inside.places.items c.take_out.new.places.items c.self.inside.heap.items c.take_out.new.heap.items c.index-at.result.now c.args.timer.0 f.timer
    c.self.invariant.0 f.slot within here c.take_out.ensures.order c.take_out.ensures.placed c.take_out.ensures.taken c.take_out.ensures.table in
    let len : length (slice_set c.self.inside.slots.items c.args.timer.0 None) ≡ length c.self.inside.slots.items = length-set c.self.inside.slots.items c.args.timer.0 None in
    (index, record { all = omega arith; now = omega (arith, c.take_out.ensures.taken.len); slots_room = grind arith; places_room = grind arith; heap_room = grind arith; few = c.self.invariant.1.few; few_in_all = c.self.invariant.1.few_in_all })

pub returns : goal.returns
returns c =
    let all : armed_from 0 (slice_set c.self.inside.slots.items c.args.timer.0 None) ≡ without c.args.timer.0 (armed_from 0 c.self.inside.slots.items) = without-set c.args.timer.0 0 c.args.timer.0 c.self.inside.slots.items (omega arith) in
    let len : length (slice_set c.self.inside.slots.items c.args.timer.0 None) ≡ length c.self.inside.slots.items = length-set c.self.inside.slots.items c.args.timer.0 None in
    let f = found c.args.timer.0 c.self.inside.slots.items c.self.inside.places.items c.self.inside.heap.items c.args.self.now (ap (λ (v : TimerTable). v.armed) c.self.view_is) c.requires.armed c.self.invariant.0 in
    let P : TimerTable → Type 0 = λ v. (a : Armed) → timer_of c.args.timer.0 v.armed ≡ Some a → a.period ≡ 0 → armed_from 0 (slice_set c.self.inside.slots.items c.args.timer.0 None) ≡ fired c.args.timer.0 v.armed in
    record { after = rw (← c.self.view_is, all, len) refl; single = subst P c.self.view_is (λ a h p. single_fired c.args.timer.0 c.self.inside.slots.items f.timer a f.slot h p) }
