use Rattle.std.proofs.Common.{◌≡◌}
use Rattle.so_queue.specs.Picks.{least_below}
use Rattle.so_disp_excl.specs.Pick.{open_front}
use Rattle.so_disp_excl.proofs.plain.plain_pick.Given as goal

abbrev pub invariant-loop-key : goal.invariant-loop-key
invariant-loop-key l = l.best ≡ least_below (open_front l.scene l.queues l.lane) l.key
