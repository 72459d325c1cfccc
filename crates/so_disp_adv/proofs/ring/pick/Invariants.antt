use Rattle.so_disp_adv.specs.Pick.{open_front}
use Rattle.so_queue.proofs.WalkLaws.{IsWalk, left}
use Rattle.so_disp_adv.proofs.ring.pick.Given as goal

abbrev pub invariant-loop-at : goal.invariant-loop-at
invariant-loop-at g l = IsWalk l.queues (open_front l.scene l.queues (g.H.Heads.class l.heads) l.lane) l.at

abbrev pub decreases-loop-at : goal.decreases-loop-at
decreases-loop-at g l = left l.queues l.at
