use Rattle.so_timer.specs.Heap.{IsEarliest}
use Rattle.so_timer.proofs.heap.scanned.Given as goal

abbrev pub invariant-loop-due : goal.invariant-loop-due
invariant-loop-due l = IsEarliest l.heap l.due-index l.after l.best
