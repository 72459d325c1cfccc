use Rattle.std.proofs.Common.{◌≡◌}
use Rattle.so_scene.specs.Subscriptions.{filters_first}
use Rattle.so_mbox.proofs.FlagLaws.{written, as_copied}
use Rattle.so_mbox.proofs.flags.put_filters_first.Given as goal

abbrev pub invariant-loop-k : goal.invariant-loop-k
invariant-loop-k l = l.flags ≡ written as_copied l.k (filters_first l.filters) l.initial.flags
