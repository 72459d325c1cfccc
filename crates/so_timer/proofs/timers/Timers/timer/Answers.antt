use Rattle.std.proofs.Common.{◌≡◌, arith, rules, sym, None}
use Rattle.so_timer.specs.Slots.{slot_at}
use Rattle.so_timer.proofs.TimerLaws.{timer_of-at}
use Rattle.so_timer.proofs.timers.Timers.timer.Goals as goal

pub returns-in-Some : goal.returns-in-Some
returns-in-Some c =
    let at = timer_of-at c.args.timer.0 0 c.args.timer.0 c.self.inside.slots.items (omega arith) in
    let here : slot_at c.self.inside.slots.items c.args.timer.0 ≡ c.in-Some.slot.now = search rules in
    rw (← c.self.view_is) (sym (rw here at at))

pub returns-in-None : goal.returns-in-None
returns-in-None c =
    let at = timer_of-at c.args.timer.0 0 c.args.timer.0 c.self.inside.slots.items (omega arith) in
    let here : slot_at c.self.inside.slots.items c.args.timer.0 ≡ None = search rules in
    rw (← c.self.view_is) (sym (rw here at at))
