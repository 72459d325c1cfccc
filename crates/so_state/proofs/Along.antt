-- A search through the states of a path.
use Rattle.std.proofs.Common.{◌≡◌, ℕ, ◌+◌, ◌<◌, Bool, List, length, drop, get_or, Some, None, refl, add-one, drop-cons}
use Rattle.so_ids.specs.Ids.{default_state}
use Rattle.so_ids.specs.declared.StateId.{StateId}
use Rattle.so_ids.specs.declared.MboxId.{MboxId}
use Rattle.so_ids.specs.declared.MsgId.{MsgId}
use Rattle.so_state.specs.declared.choice.Row.{Row}
use Rattle.so_state.specs.Choice.{answering, row_in}

module _ (path : List StateId) (rows : List Row) (active : List Bool) (mbox : MboxId) (msg : MsgId) (i : ℕ) (h : i < length path) where
  pub along_found : (k : ℕ) → row_in rows active mbox msg (get_or path i default_state) ≡ Some k → answering rows active mbox msg (drop i path) ≡ Some k
  along_found k found = rw (drop-cons path i default_state h, found) refl

  pub along_next : row_in rows active mbox msg (get_or path i default_state) ≡ None → answering rows active mbox msg (drop i path) ≡ answering rows active mbox msg (drop (i + 1) path)
  along_next none = rw (add-one i, drop-cons path i default_state h, none) refl

pub ruleset steps = (along_found, along_next)
