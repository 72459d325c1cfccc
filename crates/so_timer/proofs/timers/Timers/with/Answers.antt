use Rattle.std.proofs.Common.{◌≡◌, arith, [], refl}
use Rattle.so_timer.specs.Slots.{armed_from}
use Rattle.so_timer.proofs.IndexLaws.{index_empty}
use Rattle.so_timer.proofs.timers.Timers.with.Goals as goal

pub invariant_of-result : goal.invariant_of-result
invariant_of-result c =
    let index = index_empty c.in-Ok.slots.items c.in-Ok-with_capacity.places.items c.in-Ok-with_capacity-2.heap.items c.in-Ok.ensures.items c.in-Ok-with_capacity.ensures.items c.in-Ok-with_capacity-2.ensures.items in
    (index, record { all = grind arith; now = grind arith; slots_room = grind arith; places_room = grind arith; heap_room = grind arith; few = grind arith; few_in_all = grind arith })

pub returns : goal.returns
unfolding armed_from
returns c = let e : c.in-Ok.slots.items ≡ [] = c.in-Ok.ensures.items in rw e refl
