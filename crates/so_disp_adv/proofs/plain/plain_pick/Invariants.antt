use Rattle.std.proofs.Common.{◌≡◌}
use Rattle.so_queue.specs.Picks.{least_below}
use Rattle.so_disp_adv.specs.Pick.{open_front}
use Rattle.so_disp_adv.proofs.plain.plain_pick.Given as goal

abbrev pub invariant-loop-key : goal.invariant-loop-key
invariant-loop-key g l = l.best ≡ least_below (open_front l.scene l.queues (g.H.Heads.class l.heads) l.lane) l.key
