use Rattle.std.proofs.Common.{◌≡◌, ℕ, ◌<◌, ◌≤◌, length, false}
use Rattle.std.specs.Prelude.{slice_index_or}
use Rattle.so_scene.specs.Lanes.{lanes, serves}
use Rattle.so_events.proofs.counts.first_lanes.Given as goal

abbrev pub invariant-loop-key : goal.invariant-loop-key
invariant-loop-key l =
    (length l.firsts.items ≡ l.key) × ((k : ℕ) → k < l.key → slice_index_or l.firsts.items k 0 ≤ lanes l.scene)
    × ((k j : ℕ) → k < l.key → j < slice_index_or l.firsts.items k 0 → serves l.scene (record { 0 = j }) (record { 0 = k }) ≡ false)
