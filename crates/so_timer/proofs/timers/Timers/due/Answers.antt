use Rattle.std.proofs.Common.{◌≡◌, ℕ, ◌<◌, ◌≤◌, ◌^◌, length, arith, rules, List, sym, ap, refl, Option, Some, None}
use Rattle.std.proofs.lemmas.List.{get_or_read}
use Rattle.std.proofs.lemmas.Bool.{le-leb, lt-leb}
use Rattle.so_ids.specs.declared.TimerId.{TimerId}
use Rattle.so_timer.specs.declared.heap.Due.{Due}
use Rattle.so_timer.specs.Heap.{due_at, no_due}
use Rattle.so_timer.specs.declared.timer.Armed.{Armed}
use Rattle.so_timer.specs.Timers.{next_of, due_of}
use Rattle.so_timer.specs.Slots.{armed_from}
use Rattle.so_timer.proofs.NextLaws.{IsNext, next_is, next_none}
use Rattle.so_timer.proofs.timers.Timers.due.Goals as goal

due_none : (now : ℕ) (armed : List Armed) → next_of armed ≡ None → ◌≡◌ {A = Option TimerId} None (due_of now armed)
due_none now armed e = rw e refl

due_now : (now : ℕ) (armed : List Armed) (due first : Due) → first ≡ due → IsNext armed due → first.deadline ≤ now → Some first.timer ≡ due_of now armed
due_now now armed due first s n l =
    let le : n.next.deadline ≤ now = omega (arith, n.deadline, ap (λ (d : Due). d.deadline) s) in
    let same : ◌≡◌ {A = TimerId} (record { 0 = n.next.timer.0 }) first.timer = rw (n.number, s) refl in
    rw (n.is, le-leb n.next.deadline now le) (sym (ap (λ (t : TimerId). Some t) same))

due_later : (now : ℕ) (armed : List Armed) (due first : Due) → first ≡ due → IsNext armed due → now < first.deadline → ◌≡◌ {A = Option TimerId} None (due_of now armed)
due_later now armed due first s n l =
    let lt : now < n.next.deadline = omega (arith, n.deadline, ap (λ (d : Due). d.deadline) s) in
    rw (n.is, lt-leb n.next.deadline now lt) refl

pub returns-then-len-eq0 : goal.returns-then-len-eq0
returns-then-len-eq0 c =
    let none : length c.self.inside.heap.items ≡ 0 = search rules in
    rw (← c.self.view_is) (due_none c.args.now (armed_from 0 c.self.inside.slots.items) (next_none c.self.inside.slots.items c.self.inside.places.items c.self.inside.heap.items c.self.invariant.0 none))

pub returns-then-first-now : goal.returns-then-first-now
returns-then-first-now c =
    let some : 0 < length c.self.inside.heap.items = search rules in
    let small : length c.self.inside.slots.items ≤ 2 ^ 32 = omega (arith, c.self.invariant.1.all, c.self.invariant.1.few_in_all) in
    let first : c.index-first.result.now ≡ due_at c.self.inside.heap.items 0 = get_or_read c.self.inside.heap.items 0 c.index-first.result.now some c.index-first.ensures no_due in
    rw (← c.self.view_is) (due_now c.args.now (armed_from 0 c.self.inside.slots.items) (due_at c.self.inside.heap.items 0) c.index-first.result.now first
    (next_is c.self.inside.slots.items c.self.inside.places.items c.self.inside.heap.items c.self.invariant.0 small some) (search rules))

pub returns-else-first-now : goal.returns-else-first-now
returns-else-first-now c =
    let some : 0 < length c.self.inside.heap.items = search rules in
    let small : length c.self.inside.slots.items ≤ 2 ^ 32 = omega (arith, c.self.invariant.1.all, c.self.invariant.1.few_in_all) in
    let first : c.index-first.result.now ≡ due_at c.self.inside.heap.items 0 = get_or_read c.self.inside.heap.items 0 c.index-first.result.now some c.index-first.ensures no_due in
    rw (← c.self.view_is) (due_later c.args.now (armed_from 0 c.self.inside.slots.items) (due_at c.self.inside.heap.items 0) c.index-first.result.now first
    (next_is c.self.inside.slots.items c.self.inside.places.items c.self.inside.heap.items c.self.invariant.0 small some) (search rules))
