-- Which row of an agent's table answers an event, over the list of its rows and the list of which of them
-- are active.
use Rattle.std.specs.Prelude.{◌≡◌, ℕ, Bool, true, false, ◌&&◌, ◌||◌, ◌==◌, not, List, [], ◌∷◌, slice_get, Option, Some, None, position, zip}
use Rattle.std.specs.Option.{option_or}
use Rattle.so_ids.specs.declared.StateId.{StateId}
use Rattle.so_ids.specs.declared.MboxId.{MboxId}
use Rattle.so_ids.specs.declared.MsgId.{MsgId}
use Rattle.so_ids.specs.declared.RowId.{RowId}
use Rattle.so_ids.specs.declared.Chosen.{Chosen}
use Rattle.so_ids.specs.declared.Chosen.TheVariants as chose
use Rattle.so_state.specs.declared.states.State.{State}
use Rattle.so_state.specs.declared.choice.Row.{Row}
use Rattle.so_state.specs.declared.choice.RowKind.{RowKind}
use Rattle.so_state.specs.declared.choice.RowKind.TheVariants.{Run, Switch, Transfer, Suppress, Dead}
use Rattle.so_state.specs.States.{same_state, is_on, path}

abbrev pub is_dead : RowKind → Bool
is_dead Run = false
is_dead (Switch to) = false
is_dead (Transfer to) = false
is_dead Suppress = false
is_dead Dead = true

abbrev pub is_for : MboxId → MsgId → Row → Bool
is_for mbox msg row = (row.mbox.0 == mbox.0) && (row.msg.0 == msg.0)

-- an active row of the state s
abbrev pub answers_in : MboxId → MsgId → StateId → Row × Bool → Bool
answers_in mbox msg s pair = pair.1 && is_for mbox msg pair.0 && not (is_dead pair.0.kind) && same_state pair.0.state s

-- an active dead-letter row
abbrev pub answers_dead : MboxId → MsgId → Row × Bool → Bool
answers_dead mbox msg pair = pair.1 && is_for mbox msg pair.0 && is_dead pair.0.kind

-- the number of the first active row of the state s
unfoldable pub row_in : List Row → List Bool → MboxId → MsgId → StateId → Option ℕ
row_in rows active mbox msg s = position (answers_in mbox msg s) (zip rows active)

-- the number of the first active dead-letter row
unfoldable pub dead_row : List Row → List Bool → MboxId → MsgId → Option ℕ
dead_row rows active mbox msg = position (answers_dead mbox msg) (zip rows active)

-- the row of the first of these states that has one, and without one the dead-letter row
abbrev pub answering : List Row → List Bool → MboxId → MsgId → List StateId → Option ℕ
answering rows active mbox msg [] = dead_row rows active mbox msg
answering rows active mbox msg (s ∷ outer) = option_or (row_in rows active mbox msg s) (answering rows active mbox msg outer)

-- what a row of this number, state and kind chooses: a transfer comes from the state that declares it
abbrev pub choice_of : RowId → StateId → RowKind → Chosen
choice_of number s Run = chose.Run number
choice_of number s (Switch to) = chose.Switch to
choice_of number s (Transfer to) = chose.Transfer s to
choice_of number s Suppress = chose.Suppressed
choice_of number s Dead = chose.Dead number

abbrev pub choice_at : ℕ → Option Row → Chosen
choice_at k None = chose.Nothing
choice_at k (Some row) = choice_of (record { 0 = k }) row.state row.kind

abbrev pub choice_by : List Row → Option ℕ → Chosen
choice_by rows None = chose.Nothing
choice_by rows (Some k) = choice_at k (slice_get rows k)

-- from the leaf upwards
abbrev pub chosen : List State → List Row → List Bool → StateId → MboxId → MsgId → Chosen
chosen states rows active leaf mbox msg = choice_by rows (answering rows active mbox msg (path states leaf))

-- row k is active and for this event, and is a dead-letter row or one of these states
pub record IsAnswer (rows : List Row) (active : List Bool) (mbox : MboxId) (msg : MsgId) (states : List StateId) (k : ℕ) : Type 0 where
  pub row : Row
  pub numbered : slice_get rows k ≡ Some row
  pub is_active : slice_get active k ≡ Some true
  pub for_event : is_for mbox msg row ≡ true
  pub placed : (is_dead row.kind || is_on states row.state) ≡ true
