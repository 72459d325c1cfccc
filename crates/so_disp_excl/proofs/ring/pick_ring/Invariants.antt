use Rattle.so_disp_excl.specs.Pick.{open_front}
use Rattle.so_queue.proofs.WalkLaws.{IsWalk, left}
use Rattle.so_disp_excl.proofs.ring.pick_ring.Given as goal

abbrev pub invariant-loop-at : goal.invariant-loop-at
invariant-loop-at l = IsWalk l.queues (open_front l.scene l.queues l.lane) l.at

abbrev pub decreases-loop-at : goal.decreases-loop-at
decreases-loop-at l = left l.queues l.at
