use Rattle.std.proofs.Common.{◌≡◌, ◌≤◌}
use Rattle.sorun.specs.Loads.{handled}
use Rattle.sorun.proofs.LoadLaws.{below}
use Rattle.sorun.proofs.load.handled.Given as goal

abbrev pub invariant-loop-place : goal.invariant-loop-place
invariant-loop-place l = (l.count ≡ handled (below l.fn.history.entries l.place)) × (l.count ≤ l.place)
