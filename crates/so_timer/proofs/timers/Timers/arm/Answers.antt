use Rattle.std.proofs.Common.{◌≡◌, ◌+◌, ◌<◌, length, arith, rules, [], ◌∷◌, ◌++◌, sym, ◌∙◌, subst, refl, Some}
use Rattle.so_timer.specs.declared.timer.Timer.{Timer}
use Rattle.so_timer.specs.declared.heap.Due.{Due}
use Rattle.so_timer.specs.Timers.{TimerTable}
use Rattle.so_timer.specs.Slots.{armed_from, armed_timer}
use Rattle.so_timer.specs.Index.{IsIndex}
use Rattle.so_timer.proofs.IndexLaws.{index_pushed}
use Rattle.so_timer.proofs.TimerLaws.{armed_from-push}
use Rattle.std.proofs.lemmas.List.{length_push}
use Rattle.so_timer.proofs.timers.Timers.arm.Goals as goal

pub invariant_of-self : goal.invariant_of-self
invariant_of-self c =
    let due : Due = record { deadline = c.args.deadline; timer = record { 0 = c.len.result } } in
    let timer : Timer = record { deadline = c.args.deadline; period = c.args.period; task = c.args.task } in
    let e : c.len.result ≡ length c.self.inside.slots.items = search rules in
    let room : length (armed_from 0 c.self.inside.slots.items) < c.self.inside.cap = (let P : TimerTable → Type 0 = λ v. length v.armed < v.cap in subst P (sym c.self.view_is) c.requires.room) in
    let fresh : length c.self.inside.slots.items < c.self.inside.total = (let P : TimerTable → Type 0 = λ v. v.next < v.total in subst P (sym c.self.view_is) c.requires.fresh) in
    let index : IsIndex c.push_reserved.new.self.items c.add.new.places.items c.add.new.heap.items =
    rw c.push_reserved.ensures.items
    (index_pushed c.self.inside.slots.items c.self.inside.places.items c.add.new.places.items c.self.inside.heap.items c.add.new.heap.items due timer c.self.invariant.0 e refl
    c.add.ensures.order c.add.ensures.placed c.add.ensures.added c.add.ensures.table) in
    let longer : length c.add.new.heap.items ≡ length c.self.inside.heap.items + 1 = c.add.ensures.added.len ∙ length_push c.self.inside.heap.items due in
    let more : length c.push_reserved.new.self.items ≡ length c.self.inside.slots.items + 1 = rw c.push_reserved.ensures.items (length_push c.self.inside.slots.items (Some timer)) in
    (index, record { all = omega arith; now = omega (arith, c.self.invariant.0.count); slots_room = grind arith; places_room = grind arith; heap_room = grind arith; few = c.self.invariant.1.few; few_in_all = c.self.invariant.1.few_in_all })

pub returns-clause-after : goal.returns-clause-after
returns-clause-after c =
    let timer : Timer = record { deadline = c.args.deadline; period = c.args.period; task = c.args.task } in
    let all : armed_from 0 c.push_reserved.new.self.items ≡ armed_from 0 c.self.inside.slots.items ++ armed_timer (length c.self.inside.slots.items) timer ∷ [] =
    rw c.push_reserved.ensures.items (armed_from-push 0 (length c.self.inside.slots.items) c.self.inside.slots.items timer (omega arith)) in
    let next : length c.push_reserved.new.self.items ≡ length c.self.inside.slots.items + 1 = rw c.push_reserved.ensures.items (length_push c.self.inside.slots.items (Some timer)) in
    rw (← c.self.view_is, all, next) refl
