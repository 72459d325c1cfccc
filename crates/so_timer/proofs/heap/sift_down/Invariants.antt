use Rattle.std.proofs.Common.{length, ◌-◌}
use Rattle.so_timer.proofs.HeapLaws.{IsLowering}
use Rattle.so_timer.proofs.heap.sift_down.Given as goal

abbrev pub invariant-loop-below : goal.invariant-loop-below
invariant-loop-below l = IsLowering l.initial.heap l.heap l.places l.at

abbrev pub decreases-loop-below : goal.decreases-loop-below
decreases-loop-below l = length l.heap - l.at
