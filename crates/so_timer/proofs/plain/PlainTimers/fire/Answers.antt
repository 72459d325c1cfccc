use Rattle.std.proofs.Common.{rules, ◌≡◌, ℕ, length, List, Option, Some, arith, refl, sym, ap}
use Rattle.std.specs.Prelude.{slice_set}
use Rattle.std.proofs.lemmas.List.{length-set}
use Rattle.so_timer.specs.declared.timer.Timer.{Timer}
use Rattle.so_timer.specs.Timers.{TimerTable, timer_of, fired}
use Rattle.so_timer.specs.Slots.{armed_timer, armed_from, slot_at}
use Rattle.so_timer.proofs.TimerLaws.{fired-set}
use Rattle.so_timer.proofs.IndexLaws.{slot_is, slot_within}
use Rattle.so_timer.proofs.plain.PlainTimers.fire.Goals as goal

slot : (n : ℕ) (slots : List (Option Timer)) (found : Timer) (v : TimerTable) → armed_from 0 slots ≡ v.armed → Some (armed_timer n found) ≡ timer_of n v.armed → slot_at slots n ≡ Some found
slot n slots found v e h = slot_is n slots found (rw e (sym h))

pub index_mut-requires : goal.index_mut-requires
index_mut-requires c =
    let h = slot c.args.timer.0 c.self.inside.slots.items c.in-Some.found c.args.self.now (ap (λ (v : TimerTable). v.armed) c.self.view_is) c.in-Some.ensures in
    let l = slot_within c.self.inside.slots.items c.args.timer.0 c.in-Some.found h in
    search rules

pub returns-clause-after : goal.returns-clause-after
returns-clause-after c =
    let h = slot c.args.timer.0 c.self.inside.slots.items c.in-Some.found c.args.self.now (ap (λ (v : TimerTable). v.armed) c.self.view_is) c.in-Some.ensures in
    let all : armed_from 0 (slice_set c.self.inside.slots.items c.args.timer.0 c.fired_once.result) ≡ fired c.args.timer.0 (armed_from 0 c.self.inside.slots.items) =
    rw c.fired_once.ensures (fired-set c.args.timer.0 0 c.args.timer.0 c.self.inside.slots.items c.in-Some.found (omega arith) h) in
    let len : length (slice_set c.self.inside.slots.items c.args.timer.0 c.fired_once.result) ≡ length c.self.inside.slots.items = length-set c.self.inside.slots.items c.args.timer.0 c.fired_once.result in
    rw (← c.self.view_is, all, len) refl
