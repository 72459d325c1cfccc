-- Timers that are armed, cancelled and fired.
use Rattle.std.proofs.Common.{◌≡◌, ℕ, [], ◌∷◌, Bool, true, false, Some, None, refl}
use Rattle.std.specs.Prelude.{pos, replicate, map, length, ◌&&◌, nat_lt}
use Rattle.so_ids.specs.declared.TimerId.{TimerId}
use Rattle.so_ids.specs.declared.Target.TheVariants.{Mbox}
use Rattle.so_timer.specs.declared.timer.TimerTask.{TimerTask}
use Rattle.so_timer.specs.declared.timer.TimerTask.TheVariants as task
use Rattle.so_timer.specs.Timers.{TimerTable, no_timers, is_armed, task_of, after_arm, after_cancel, after_clear, after_fire, due_of, next_of, earliest_of}

abbrev timer : ℕ → TimerId
timer n = record { 0 = n }

abbrev limit : ℕ → TimerTask
limit n = task.Limit (record { 0 = n }) (record { 0 = n })

abbrev signal : ℕ → TimerTask
signal n = task.Deliver (Mbox (record { 0 = n })) (record { 0 = 0 }) (record { fields = replicate 4 (pos 0); used = 0 })

-- timer 0 at 7, and the timers 1, 2 and 3 at 5, each once
abbrev four : TimerTable
four = after_arm 5 0 (limit 3) (after_arm 5 0 (signal 2) (after_arm 5 0 (limit 1) (after_arm 7 0 (limit 0) (no_timers 4 6))))

abbrev three : TimerTable
three = after_cancel 1 four

abbrev after_two : TimerTable
after_two = after_fire 3 (after_fire 2 three)

-- the least number of two equal deadlines is the first, and a cancelled one is not due
timers_fire_by_deadline_and_then_by_number :
    (due_of 4 four.armed ∷ due_of 5 four.armed ∷ due_of 5 three.armed ∷ due_of 5 (after_fire 2 three).armed ∷ due_of 5 after_two.armed ∷ due_of 7 after_two.armed ∷ [])
    ≡ (None ∷ Some (timer 1) ∷ Some (timer 2) ∷ Some (timer 3) ∷ None ∷ Some (timer 0) ∷ [])
unfolding next_of
timers_fire_by_deadline_and_then_by_number = refl

-- what each does, in the order in which they fire; and what was cancelled does nothing
each_does_its_task_as_it_fires :
    (task_of 2 three.armed ∷ task_of 3 (after_fire 2 three).armed ∷ task_of 0 after_two.armed ∷ task_of 1 three.armed ∷ task_of 2 after_two.armed ∷ [])
    ≡ (Some (signal 2) ∷ Some (limit 3) ∷ Some (limit 0) ∷ None ∷ None ∷ [])
each_does_its_task_as_it_fires = refl

a_cancelled_timer_is_not_armed : (is_armed 1 four.armed ∷ is_armed 1 three.armed ∷ is_armed 9 three.armed ∷ []) ≡ (true ∷ false ∷ false ∷ [])
a_cancelled_timer_is_not_armed = refl

-- numbers go on, also after all timers are cleared
abbrev fifth : TimerTable
fifth = after_arm 6 0 (limit 4) after_two

numbers_go_on : (due_of 7 fifth.armed ≡ Some (timer 4)) × (due_of 100 (after_clear fifth).armed ≡ None) × (due_of 1 (after_arm 1 0 (limit 5) (after_clear fifth)).armed ≡ Some (timer 5))
unfolding next_of
numbers_go_on = (refl, refl, refl)

-- whether fewer are armed than may be at once, and fewer were than may be in all
abbrev has_room : TimerTable → Bool
has_room t = nat_lt (length t.armed) t.cap && nat_lt t.next t.total

-- four may be armed at once, and six in all
there_is_room_for_so_many_at_once_and_in_all :
    map has_room (no_timers 4 6 ∷ four ∷ three ∷ after_two ∷ fifth ∷ after_clear fifth ∷ after_arm 1 0 (limit 5) (after_clear fifth) ∷ after_clear (after_arm 1 0 (limit 5) fifth) ∷ [])
    ≡ (true ∷ false ∷ true ∷ true ∷ true ∷ true ∷ false ∷ false ∷ [])
there_is_room_for_so_many_at_once_and_in_all = refl

-- a message every 5 ms, and a time limit at 10
abbrev both : TimerTable
both = after_arm 10 0 (limit 1) (after_arm 5 5 (signal 0) (no_timers 2 2))

abbrev fired_once : TimerTable
fired_once = after_fire 0 both

abbrev fired_twice : TimerTable
fired_twice = after_fire 0 fired_once

-- once for a deadline, and again at the next
a_periodic_timer_keeps_its_number :
    (due_of 5 both.armed ∷ due_of 5 fired_once.armed ∷ due_of 10 fired_once.armed ∷ due_of 10 fired_twice.armed ∷ due_of 14 (after_fire 1 fired_twice).armed ∷ due_of 15 (after_fire 1 fired_twice).armed ∷ [])
    ≡ (Some (timer 0) ∷ None ∷ Some (timer 0) ∷ Some (timer 1) ∷ None ∷ Some (timer 0) ∷ [])
unfolding next_of
a_periodic_timer_keeps_its_number = refl

the_earliest_deadline_is_the_least_above_a_time :
    (earliest_of 4 four.armed ∷ earliest_of 5 four.armed ∷ earliest_of 7 four.armed ∷ earliest_of 5 fired_once.armed ∷ earliest_of 10 fired_twice.armed ∷ earliest_of 15 fired_twice.armed ∷ [])
    ≡ (Some 5 ∷ Some 7 ∷ None ∷ Some 10 ∷ Some 15 ∷ None ∷ [])
unfolding earliest_of
the_earliest_deadline_is_the_least_above_a_time = refl

a_cancelled_periodic_timer_does_not_fire_again : (task_of 0 fired_twice.armed ≡ Some (signal 0)) × (due_of 100 (after_cancel 0 (after_fire 1 fired_twice)).armed ≡ None)
unfolding next_of
a_cancelled_periodic_timer_does_not_fire_again = (refl, refl)
