-- What the ledger keeps.
use Rattle.std.specs.Prelude.{◌≡◌, ℕ, ◌≤◌, List, Bool, true, false}
use Rattle.so_ids.specs.Limits.{most_units}
use Rattle.so_scene.specs.declared.parts.SceneParts.{SceneParts}
use Rattle.so_scene.specs.Checked.{IsScene}
use Rattle.so_history.specs.declared.entry.Entry.{Entry}
use Rattle.so_history.specs.Units.{units, fits}
use Rattle.so_history.specs.Steps.{IsStep, Legal}
use Rattle.so_tables.specs.declared.tables.Tables.{Tables}
use Rattle.so_ledger.specs.Shapes.{Core}
use Rattle.so_tables.specs.Tables.{tables_of}

-- a legal step that doesn't fit
pub record HasTooLarge (s : SceneParts) (limit : ℕ) (h : List Entry) : Type 0 where
  pub entry : Entry
  pub step : IsStep s h entry
  pub too_large : fits s limit h entry ≡ false

-- an entry may be added: it is a legal step that fits, and the mark of Full does not stand
pub record MayAdd (k : Core) (e : Entry) : Type 0 where
  pub step : IsStep k.scene k.history e
  pub fits : fits k.scene k.limit k.history e ≡ true
  pub unmarked : k.full ≡ false

-- the history is legal and within its units, the tables are those of the history,
-- and the mark of Full stands only where a legal step doesn't fit
pub record IsKept (s : SceneParts) (limit : ℕ) (h : List Entry) (t : Tables) (mark : Bool) : Type 0 where
  pub scene : IsScene s
  pub few : limit ≤ most_units
  pub legal : Legal s h
  pub within : units s h ≤ limit
  pub tables : t ≡ tables_of s limit h
  pub full : mark ≡ true → HasTooLarge s limit h
