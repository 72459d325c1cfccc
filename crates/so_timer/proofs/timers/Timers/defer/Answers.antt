use Rattle.std.proofs.Common.{◌≡◌, ℕ, ◌+◌, ◌<◌, length, arith, rules, List, sym, ap, ◌∙◌, subst, refl, Option, Some}
use Rattle.std.specs.Prelude.{slice_index_or, slice_set}
use Rattle.so_timer.specs.declared.timer.Timer.{Timer}
use Rattle.so_timer.specs.declared.heap.Due.{Due}
use Rattle.so_timer.specs.Heap.{due_at, later_due}
use Rattle.so_timer.specs.Timers.{TimerTable, timer_of, fired}
use Rattle.so_timer.specs.Slots.{armed_from, armed_timer}
use Rattle.so_timer.specs.Index.{IsIndex}
use Rattle.so_timer.proofs.IndexLaws.{index_changed, found, slot_is, period_fired, Found}
use Rattle.std.proofs.lemmas.List.{get_or_read, length-set}
use Rattle.so_timer.proofs.timers.Timers.defer.Goals as goal

here : (n : ℕ) (slots : List (Option Timer)) (places : List ℕ) (heap : List Due) (v : TimerTable) (t : Timer) → armed_from 0 slots ≡ v.armed → timer_of n v.armed ≡ Some (armed_timer n t) → IsIndex slots places heap → Found n slots places heap
here n slots places heap v t e h x = found n slots places heap v e (rw h refl) x

pub index-at-requires : goal.index-at-requires
index-at-requires c =
    let f = here c.args.timer.0 c.self.inside.slots.items c.self.inside.places.items c.self.inside.heap.items c.args.self.now c.args.found (ap (λ (v : TimerTable). v.armed) c.self.view_is) c.requires.armed c.self.invariant.0 in
    let l = f.places_in in
    search rules

pub change-requires-clause-within : goal.change-requires-clause-within
change-requires-clause-within c =
    let f = here c.args.timer.0 c.self.inside.slots.items c.self.inside.places.items c.self.inside.heap.items c.args.self.now c.args.found (ap (λ (v : TimerTable). v.armed) c.self.view_is) c.requires.armed c.self.invariant.0 in
    let is : c.index-at.result.now ≡ slice_index_or c.self.inside.places.items c.args.timer.0 0 = get_or_read c.self.inside.places.items c.args.timer.0 c.index-at.result.now f.places_in c.index-at.ensures 0 in
    let within : c.index-at.result.now < length c.self.inside.heap.items = rw is f.heap_in in
    search rules

pub index_mut-requires : goal.index_mut-requires
index_mut-requires c =
    let f = here c.args.timer.0 c.self.inside.slots.items c.self.inside.places.items c.self.inside.heap.items c.args.self.now c.args.found (ap (λ (v : TimerTable). v.armed) c.self.view_is) c.requires.armed c.self.invariant.0 in
    let l = f.slots_in in
    search rules

pub invariant_of-self : goal.invariant_of-self
invariant_of-self c =
    let f = here c.args.timer.0 c.self.inside.slots.items c.self.inside.places.items c.self.inside.heap.items c.args.self.now c.args.found (ap (λ (v : TimerTable). v.armed) c.self.view_is) c.requires.armed c.self.invariant.0 in
    let is : c.index-at.result.now ≡ slice_index_or c.self.inside.places.items c.args.timer.0 0 = get_or_read c.self.inside.places.items c.args.timer.0 c.index-at.result.now f.places_in c.index-at.ensures 0 in
    let within : c.index-at.result.now < length c.self.inside.heap.items = rw is f.heap_in in
    let at : (due_at c.self.inside.heap.items c.index-at.result.now).timer.0 ≡ c.args.timer.0 = ap (λ i. (due_at c.self.inside.heap.items i).timer.0) is ∙ f.here in
    let later : Timer = record { deadline = c.args.found.deadline + c.from.result; period = c.args.found.period; task = c.args.found.task } in
    let index = index_changed c.self.inside.slots.items c.self.inside.places.items c.change.new.places.items c.self.inside.heap.items c.change.new.heap.items c.index-at.result.now c.args.timer.0 f.timer later
    c.self.invariant.0 f.slot within at c.change.ensures.order c.change.ensures.placed c.change.ensures.changed c.change.ensures.table in
    let len : length (slice_set c.self.inside.slots.items c.args.timer.0 (Some later)) ≡ length c.self.inside.slots.items = length-set c.self.inside.slots.items c.args.timer.0 (Some later) in
    let hlen : length c.change.new.heap.items ≡ length c.self.inside.heap.items = c.change.ensures.changed.len ∙ length-set c.self.inside.heap.items c.index-at.result.now (later_due later.deadline (due_at c.self.inside.heap.items c.index-at.result.now)) in
    (index, record { all = omega arith; now = omega arith; slots_room = grind arith; places_room = grind arith; heap_room = grind arith; few = c.self.invariant.1.few; few_in_all = c.self.invariant.1.few_in_all })

pub returns : goal.returns
returns c =
    let later : Timer = record { deadline = c.args.found.deadline + c.from.result; period = c.args.found.period; task = c.args.found.task } in
    let armed : timer_of c.args.timer.0 (armed_from 0 c.self.inside.slots.items) ≡ Some (armed_timer c.args.timer.0 c.args.found) = (let P : TimerTable → Type 0 = λ v. timer_of c.args.timer.0 v.armed ≡ Some (armed_timer c.args.timer.0 c.args.found) in subst P (sym c.self.view_is) c.requires.armed) in
    let slot = slot_is c.args.timer.0 c.self.inside.slots.items c.args.found armed in
    let from : c.from.result ≡ c.args.found.period = search rules in
    let e : later ≡ record { deadline = c.args.found.deadline + c.args.found.period; period = c.args.found.period; task = c.args.found.task } = rw from refl in
    let all : armed_from 0 (slice_set c.self.inside.slots.items c.args.timer.0 (Some later)) ≡ fired c.args.timer.0 (armed_from 0 c.self.inside.slots.items) = period_fired c.args.timer.0 c.self.inside.slots.items c.args.found later slot c.requires.period e in
    let len : length (slice_set c.self.inside.slots.items c.args.timer.0 (Some later)) ≡ length c.self.inside.slots.items = length-set c.self.inside.slots.items c.args.timer.0 (Some later) in
    record { after = rw (← c.self.view_is, all, len) refl }
