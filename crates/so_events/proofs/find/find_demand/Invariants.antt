use Rattle.std.proofs.Common.{◌-◌}
use Rattle.so_events.proofs.NameOrder.{IsSearching}
use Rattle.so_events.proofs.find.find_demand.Given as goal

abbrev pub invariant-loop-low : goal.invariant-loop-low
invariant-loop-low l = IsSearching l.demands l.id l.low l.high

abbrev pub decreases-loop-low : goal.decreases-loop-low
decreases-loop-low l = l.high - l.low
