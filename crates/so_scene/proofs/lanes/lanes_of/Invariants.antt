use Rattle.std.proofs.Common.{◌≡◌}
use Rattle.so_scene.specs.Lanes.{lanes_to}
use Rattle.so_scene.proofs.lanes.lanes_of.Given as goal

abbrev pub invariant-loop-disp : goal.invariant-loop-disp
invariant-loop-disp l = l.lanes.items ≡ lanes_to l.fn.parts l.disp
