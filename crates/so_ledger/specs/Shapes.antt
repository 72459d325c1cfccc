-- What contracts see of the ledger.
use Rattle.std.specs.Prelude.{ℕ, List, Bool}
use Rattle.so_scene.specs.declared.parts.SceneParts.{SceneParts}
use Rattle.so_history.specs.declared.entry.Entry.{Entry}

-- the scene, how many units may be spent, the history, and the mark of Full
pub record Core : Type 0 where
  pub scene : SceneParts
  pub limit : ℕ
  pub history : List Entry
  pub full : Bool
