-- A list of states in sixteen places.
use Rattle.std.specs.Prelude.{◌≡◌, ℕ, ◌≤◌, List, take}
use Rattle.so_ids.specs.declared.StateId.{StateId}
use Rattle.so_state.specs.Plan.{padded}

-- the first `used` places are used, and the others are 0
pub record IsPadded (used : ℕ) (list : List StateId) : Type 0 where
  pub fits : used ≤ 16
  pub rest : list ≡ padded (take used list)
