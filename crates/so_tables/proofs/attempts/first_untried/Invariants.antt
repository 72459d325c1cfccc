use Rattle.std.proofs.Common.{◌≡◌, None}
use Rattle.so_lists.specs.Lists.{first_below}
use Rattle.so_tables.specs.Attempts.{untried_at}
use Rattle.so_tables.proofs.attempts.first_untried.Given as goal

abbrev pub invariant-loop-k : goal.invariant-loop-k
invariant-loop-k l = first_below (untried_at (record { scene = l.scene; tried = l.tried })) l.k ≡ None
