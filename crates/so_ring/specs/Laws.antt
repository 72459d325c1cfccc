-- The law of rings.
use Rattle.std.specs.Prelude.{ℕ, ◌≤◌}
use Rattle.so_scene.specs.Checked.{IsScene}
use Rattle.so_ring.specs.Ring.{most_in_ring, ring}

-- a ring of 1 to 4,000 agents is a scene
abbrev pub AreScenes : Type 0
AreScenes = (count : ℕ) → 1 ≤ count → count ≤ most_in_ring → IsScene (ring count)
