use Rattle.std.proofs.Common.{rules, ◌≡◌, length, None, arith, refl, sym, subst}
use Rattle.std.specs.Prelude.{slice_set}
use Rattle.std.proofs.lemmas.List.{length-set}
use Rattle.so_timer.specs.Timers.{TimerTable, timer_of, is_armed, without}
use Rattle.so_timer.specs.Slots.{armed_from}
use Rattle.std.proofs.Common.{true}
use Rattle.so_timer.proofs.TimerLaws.{without-set, without_none}
use Rattle.so_timer.proofs.IndexLaws.{armed_slot, slot_within}
use Rattle.so_timer.proofs.plain.PlainTimers.cancel.Goals as goal

pub index_mut-requires : goal.index_mut-requires
index_mut-requires c =
    let armed : is_armed c.args.timer.0 c.args.self.now.armed ≡ true = search rules in
    let h = armed_slot c.args.timer.0 c.self.inside.slots.items (let P : TimerTable → Type 0 = λ v. is_armed c.args.timer.0 v.armed ≡ true in subst P (sym c.self.view_is) armed) in
    let l = slot_within c.self.inside.slots.items c.args.timer.0 h.0 h.1 in
    search rules

pub returns-in-Some-clause-after : goal.returns-in-Some-clause-after
returns-in-Some-clause-after c =
    let all : armed_from 0 (slice_set c.self.inside.slots.items c.args.timer.0 None) ≡ without c.args.timer.0 (armed_from 0 c.self.inside.slots.items) = without-set c.args.timer.0 0 c.args.timer.0 c.self.inside.slots.items (omega arith) in
    let len : length (slice_set c.self.inside.slots.items c.args.timer.0 None) ≡ length c.self.inside.slots.items = length-set c.self.inside.slots.items c.args.timer.0 None in
    rw (← c.self.view_is, all, len) refl

pub returns-in-None-clause-after : goal.returns-in-None-clause-after
returns-in-None-clause-after c =
    let none : timer_of c.args.timer.0 c.args.self.now.armed ≡ None = sym c.in-None.ensures in
    let same : without c.args.timer.0 c.args.self.now.armed ≡ c.args.self.now.armed = without_none c.args.timer.0 c.args.self.now.armed none in
    rw same refl
