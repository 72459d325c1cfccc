use Rattle.std.proofs.Common.{◌≡◌}
use Rattle.so_scene.specs.Subscriptions.{stays_beside}
use Rattle.so_mbox.proofs.FlagLaws.{written}
use Rattle.so_mbox.proofs.flags.drop_replaced.Given as goal

abbrev pub invariant-loop-k : goal.invariant-loop-k
invariant-loop-k l = l.flags ≡ written (stays_beside l.new) l.k l.filters l.initial.flags
