use Rattle.std.proofs.Common.{◌≡◌, ℕ, ◌<◌, false}
use Rattle.so_scene.specs.Lanes.{serves}
use Rattle.so_events.proofs.counts.first_lane.Given as goal

abbrev pub invariant-loop-lane : goal.invariant-loop-lane
invariant-loop-lane l = (j : ℕ) → j < l.lane → serves l.scene (record { 0 = j }) l.key ≡ false
