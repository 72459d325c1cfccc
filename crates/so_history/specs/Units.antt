-- What a history costs.
use Rattle.std.specs.Prelude.{ℕ, ◌+◌, List, [], ◌∷◌, length, Bool, nat_le}
use Rattle.so_scene.specs.declared.parts.SceneParts.{SceneParts}
use Rattle.so_history.specs.declared.entry.Entry.{Entry}
use Rattle.so_history.specs.Demands.{queued_by}

-- an entry costs a unit for itself and one for each demand that it queues
abbrev pub cost : SceneParts → List Entry → Entry → ℕ
cost s h e = 1 + length (queued_by s h e.kind)

-- what all entries cost
unfoldable pub units : SceneParts → List Entry → ℕ
units s [] = 0
units s (e ∷ h) = units s h + cost s h e

-- one more entry fits a number of units
abbrev pub fits : SceneParts → ℕ → List Entry → Entry → Bool
fits s limit h e = nat_le (units s h + cost s h e) limit
