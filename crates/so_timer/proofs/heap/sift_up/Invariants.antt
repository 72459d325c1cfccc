use Rattle.so_timer.proofs.HeapLaws.{IsRaising}
use Rattle.so_timer.proofs.heap.sift_up.Given as goal

abbrev pub invariant-loop-at : goal.invariant-loop-at
invariant-loop-at l = IsRaising l.initial.heap l.heap l.places l.at

abbrev pub decreases-loop-at : goal.decreases-loop-at
decreases-loop-at l = l.at
