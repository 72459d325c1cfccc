use Rattle.std.proofs.Common.{◌≡◌, None}
use Rattle.so_lists.specs.Lists.{first_below}
use Rattle.so_disp_prio.specs.Pick.{from_top}
use Rattle.so_disp_prio.proofs.head.first_from_top.Given as goal

abbrev pub invariant-loop-k : goal.invariant-loop-k
invariant-loop-k l = first_below (from_top l.queues l.key) l.k ≡ None
