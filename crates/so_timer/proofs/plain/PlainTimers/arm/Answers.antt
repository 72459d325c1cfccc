use Rattle.std.proofs.Common.{◌≡◌, ◌+◌, [], ◌∷◌, ◌++◌, length, Some, arith, refl}
use Rattle.std.proofs.lemmas.List.{length_push}
use Rattle.so_timer.specs.declared.timer.Timer.{Timer}
use Rattle.so_timer.specs.Slots.{armed_timer, armed_from}
use Rattle.so_timer.proofs.TimerLaws.{armed_from-push}
use Rattle.so_timer.proofs.plain.PlainTimers.arm.Goals as goal

pub returns-clause-after : goal.returns-clause-after
returns-clause-after c =
    let timer : Timer = record { deadline = c.args.deadline; period = c.args.period; task = c.args.task } in
    let all : armed_from 0 c.push_reserved.new.self.items ≡ armed_from 0 c.self.inside.slots.items ++ armed_timer (length c.self.inside.slots.items) timer ∷ [] =
    rw c.push_reserved.ensures.items (armed_from-push 0 (length c.self.inside.slots.items) c.self.inside.slots.items timer (omega arith)) in
    let next : length c.push_reserved.new.self.items ≡ length c.self.inside.slots.items + 1 = rw c.push_reserved.ensures.items (length_push c.self.inside.slots.items (Some timer)) in
    rw (← c.self.view_is, all, next) refl
