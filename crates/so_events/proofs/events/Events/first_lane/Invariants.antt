use Rattle.std.proofs.Common.{◌≡◌, ℕ, ◌<◌}
use Rattle.std.specs.Prelude.{slice_index_or}
use Rattle.so_events.proofs.events.Events.first_lane.Given as goal

abbrev pub invariant-loop-lane : goal.invariant-loop-lane
invariant-loop-lane l = (j : ℕ) → j < l.lane → slice_index_or l.self-inside.counts.waiting.items j 0 ≡ 0
