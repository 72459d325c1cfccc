use Rattle.so_disp_prio.specs.Pick.{open_head}
use Rattle.so_queue.proofs.WalkLaws.{left}
use Rattle.so_disp_prio.proofs.TourLaws.{IsTour}
use Rattle.so_disp_prio.proofs.prio.Prio.pick.Given as goal

abbrev pub invariant-loop-at : goal.invariant-loop-at
invariant-loop-at l = IsTour l.queues (open_head l.scene l.self l.queues l.lane) l.at l.best

abbrev pub decreases-loop-at : goal.decreases-loop-at
decreases-loop-at l = left l.queues l.at
