use Rattle.std.proofs.Common.{◌≡◌, ℕ, ◌<◌, None}
use Rattle.so_timer.specs.Slots.{slot_at}
use Rattle.so_timer.proofs.plain.empty.Given as goal

abbrev pub invariant-loop-slot : goal.invariant-loop-slot
invariant-loop-slot l = (k : ℕ) → k < l.slot-index → slot_at l.slots k ≡ None
