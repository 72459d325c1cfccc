use Rattle.std.proofs.Common.{◌≡◌, None}
use Rattle.so_lists.specs.Lists.{first_below}
use Rattle.so_coop.specs.Coops.{ended_at}
use Rattle.so_coop.proofs.coops.Coops.left_next.Given as goal

abbrev pub invariant-loop-k : goal.invariant-loop-k
invariant-loop-k l = first_below (ended_at l.self) l.k ≡ None
