use Rattle.std.proofs.Common.{◌≡◌}
use Rattle.so_queue.specs.Picks.{least_below}
use Rattle.so_disp_prio.specs.Pick.{open_head}
use Rattle.so_disp_prio.proofs.prio.Prio.plain_pick.Given as goal

abbrev pub invariant-loop-key : goal.invariant-loop-key
invariant-loop-key l = l.best ≡ least_below (open_head l.scene l.self l.queues l.lane) l.key
