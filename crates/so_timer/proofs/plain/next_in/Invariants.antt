use Rattle.std.proofs.Common.{◌≡◌, ◌≤◌, length}
use Rattle.so_timer.specs.Timers.{next_of}
use Rattle.so_timer.proofs.ScanLaws.{rest_of}
use Rattle.so_timer.proofs.plain.next_in.Given as goal

abbrev pub invariant-loop-at : goal.invariant-loop-at
invariant-loop-at l = record { within : l.at ≤ length l.slots; is : l.best ≡ next_of (rest_of l.slots l.at) }

abbrev pub decreases-loop-at : goal.decreases-loop-at
decreases-loop-at l = l.at
