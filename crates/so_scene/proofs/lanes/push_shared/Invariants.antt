use Rattle.std.proofs.Common.{◌≡◌, ◌++◌, replicate}
use Rattle.so_scene.specs.Lanes.{shared_lane}
use Rattle.so_scene.proofs.lanes.push_shared.Given as goal

abbrev pub invariant-loop-k : goal.invariant-loop-k
invariant-loop-k l = l.lanes.items ≡ l.initial.lanes.items ++ replicate l.k (shared_lane l.fn.disp)
