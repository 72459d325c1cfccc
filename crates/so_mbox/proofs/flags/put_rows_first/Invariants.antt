use Rattle.std.proofs.Common.{◌≡◌}
use Rattle.so_mbox.proofs.FlagLaws.{written, as_first}
use Rattle.so_mbox.proofs.flags.put_rows_first.Given as goal

abbrev pub invariant-loop-k : goal.invariant-loop-k
invariant-loop-k l = l.flags ≡ written as_first l.k l.rows l.initial.flags
