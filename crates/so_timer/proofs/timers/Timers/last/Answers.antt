use Rattle.std.proofs.Common.{◌≡◌, ◌<◌, ◌-◌, length, sym, subst, true, rules}
use Rattle.std.proofs.lemmas.List.{get_or_read}
use Rattle.so_timer.specs.declared.heap.Due.{Due}
use Rattle.so_timer.specs.Heap.{due_at, no_due}
use Rattle.so_timer.specs.Timers.{is_armed}
use Rattle.so_timer.specs.Slots.{armed_from}
use Rattle.so_timer.proofs.IndexLaws.{slot_armed_is}
use Rattle.so_timer.proofs.timers.Timers.last.Goals as goal

pub returns-clause-armed : goal.returns-clause-armed
returns-clause-armed c =
    let within : c.len-count.result - 1 < length c.self.inside.heap.items = search rules in
    let is : c.index-last.result.now ≡ due_at c.self.inside.heap.items (c.len-count.result - 1) = get_or_read c.self.inside.heap.items (c.len-count.result - 1) c.index-last.result.now within c.index-last.ensures no_due in
    let a = c.self.invariant.0.matches.armed (c.len-count.result - 1) within in
    let P : Due → Type 0 = λ d. is_armed d.timer.0 (armed_from 0 c.self.inside.slots.items) ≡ true in
    rw (← c.self.view_is) (subst P (sym is) (slot_armed_is (due_at c.self.inside.heap.items (c.len-count.result - 1)).timer.0 c.self.inside.slots.items a.timer a.at))
