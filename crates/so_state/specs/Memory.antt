-- What a memory keeps of the leaves that an agent has entered: for each state the last one below it.
use Rattle.std.specs.Prelude.{◌≡◌, List, Option, None, slice_index_or}
use Rattle.so_ids.specs.declared.StateId.{StateId}
use Rattle.so_state.specs.declared.states.State.{State}
use Rattle.so_state.specs.Plan.{newest_below}

-- what is kept at the number of s
abbrev pub kept : List (Option StateId) → StateId → Option StateId
kept memory s = slice_index_or memory s.0 None

-- the memory knows of these leaves, newest first, all that a switch asks for
pub record StandsFor (states : List State) (memory : List (Option StateId)) (leaves : List StateId) : Type 0 where
  pub each : (s : StateId) → kept memory s ≡ newest_below states leaves s
