use Rattle.so_queue.specs.Ring.{height, IsLink}
use Rattle.so_queue.specs.Fronts.{height_of_key}
use Rattle.so_queue.proofs.plain.PlainQueues.next_key.Given as goal

abbrev pub invariant-loop-key : goal.invariant-loop-key
invariant-loop-key l = IsLink (height_of_key l.self.lists) l.key (height l.after) l.best
