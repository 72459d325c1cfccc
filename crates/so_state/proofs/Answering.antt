-- Which row answers an event, and what that makes of the choice.
use Rattle.std.proofs.Common.{◌≡◌, ℕ, Bool, true, false, ◌||◌, List, [], ◌∷◌, ◌++◌, Option, Some, None, refl, sym, ap, ◌∙◌}
use Rattle.std.specs.Prelude.{slice_get, zip}
use Rattle.std.specs.List.{AllByRecursion}
use Rattle.std.specs.Option.{option_or}
use Rattle.std.proofs.lemmas.Bool.{and_parts}
use Rattle.so_ids.specs.declared.StateId.{StateId}
use Rattle.so_ids.specs.declared.MboxId.{MboxId}
use Rattle.so_ids.specs.declared.MsgId.{MsgId}
use Rattle.so_ids.specs.declared.RowId.{RowId}
use Rattle.so_ids.specs.declared.Chosen.TheVariants as chose
use Rattle.so_state.specs.declared.choice.Row.{Row}
use Rattle.so_state.specs.declared.choice.RowKind.{RowKind}
use Rattle.so_state.specs.declared.choice.RowKind.TheVariants.{Run, Switch, Transfer, Suppress, Dead}
use Rattle.so_state.specs.States.{same_state, is_on}
use Rattle.so_state.specs.Choice.{is_dead, answers_in, answers_dead, row_in, dead_row, answering, choice_of, choice_at, choice_by, IsAnswer}
use Rattle.so_state.proofs.Lists.{zip-get, or_right, position-element}

module _ (rows : List Row) (active : List Bool) (mbox : MboxId) (msg : MsgId) where
  -- a state that has a row decides, where none before it has one
  pub answering-nearest : (inner : List StateId) (s : StateId) (outer : List StateId) (k : ℕ) → AllByRecursion (λ t. row_in rows active mbox msg t ≡ None) inner → row_in rows active mbox msg s ≡ Some k → answering rows active mbox msg (inner ++ s ∷ outer) ≡ Some k
  answering-nearest [] s outer k none some = rw some refl
  answering-nearest (t ∷ inner) s outer k none some = rw none.0 (answering-nearest inner s outer k none.1 some)

  pub answering-dead : (states : List StateId) → AllByRecursion (λ t. row_in rows active mbox msg t ≡ None) states → answering rows active mbox msg states ≡ dead_row rows active mbox msg
  answering-dead [] none = refl
  answering-dead (t ∷ states) none = rw none.0 (answering-dead states none.1)

  row_in-answer : (s : StateId) (outer : List StateId) (k : ℕ) → row_in rows active mbox msg s ≡ Some k → IsAnswer rows active mbox msg (s ∷ outer) k
  unfolding row_in
  row_in-answer s outer k e =
      let w = position-element (answers_in mbox msg s) (zip rows active) k e in
      let pair : Row × Bool = w.0 in
      let at = zip-get rows active k pair w.1 in
      let both = and_parts _ _ w.2 in
      let three = and_parts _ _ both.0 in
      let two = and_parts _ _ three.0 in
      let here : is_on (s ∷ outer) pair.0.state ≡ true = ap (λ b. b || is_on outer pair.0.state) both.1 in
      record {
        row = pair.0;
        numbered = at.0;
        is_active = at.1 ∙ ap (λ (b : Bool). Some b) two.0;
        for_event = two.1;
        placed = or_right (is_dead pair.0.kind) (is_on (s ∷ outer) pair.0.state) here;
      }

  dead_row-answer : (states : List StateId) (k : ℕ) → dead_row rows active mbox msg ≡ Some k → IsAnswer rows active mbox msg states k
  unfolding dead_row
  dead_row-answer states k e =
      let w = position-element (answers_dead mbox msg) (zip rows active) k e in
      let pair : Row × Bool = w.0 in
      let at = zip-get rows active k pair w.1 in
      let both = and_parts _ _ w.2 in
      let two = and_parts _ _ both.0 in
      record {
        row = pair.0;
        numbered = at.0;
        is_active = at.1 ∙ ap (λ (b : Bool). Some b) two.0;
        for_event = two.1;
        placed = ap (λ b. b || is_on states pair.0.state) both.1;
      }

  one_more : (b c d : Bool) → (b || c) ≡ true → (b || (d || c)) ≡ true
  one_more true c d e = refl
  one_more false c d e = or_right d c e

  answer_further : (s : StateId) (outer : List StateId) (k : ℕ) → IsAnswer rows active mbox msg outer k → IsAnswer rows active mbox msg (s ∷ outer) k
  answer_further s outer k answer = record {
    row = answer.row;
    numbered = answer.numbered;
    is_active = answer.is_active;
    for_event = answer.for_event;
    placed = one_more (is_dead answer.row.kind) (is_on outer answer.row.state) (same_state answer.row.state s) answer.placed;
  }

  answer_by : (s : StateId) (outer : List StateId) (k : ℕ) (o : Option ℕ) → row_in rows active mbox msg s ≡ o → (answering rows active mbox msg outer ≡ Some k → IsAnswer rows active mbox msg outer k) → option_or o (answering rows active mbox msg outer) ≡ Some k → IsAnswer rows active mbox msg (s ∷ outer) k
  answer_by s outer k None e later found = answer_further s outer k (later found)
  answer_by s outer k (Some j) e later found = row_in-answer s outer k (e ∙ found)

  -- the row that answers is active and for the event, and a dead-letter row or one of the states
  pub answering-answer : (states : List StateId) (k : ℕ) → answering rows active mbox msg states ≡ Some k → IsAnswer rows active mbox msg states k
  answering-answer [] k e = dead_row-answer [] k e
  answering-answer (s ∷ outer) k e = answer_by s outer k (row_in rows active mbox msg s) refl (answering-answer outer k) e

choice_of-some : (number : RowId) (s : StateId) (kind : RowKind) → choice_of number s kind ≡ chose.Nothing → ⊥
choice_of-some number s Run e = cc
choice_of-some number s (Switch to) e = cc
choice_of-some number s (Transfer to) e = cc
choice_of-some number s Suppress e = cc
choice_of-some number s Dead e = cc

choice_by-some : (rows : List Row) (k : ℕ) (row : Row) → slice_get rows k ≡ Some row → choice_by rows (Some k) ≡ chose.Nothing → ⊥
choice_by-some rows k row at e = choice_of-some (record { 0 = k }) row.state row.kind (sym (ap (choice_at k) at) ∙ e)

nothing_by : (rows : List Row) (active : List Bool) (mbox : MboxId) (msg : MsgId) (states : List StateId) (o : Option ℕ) → answering rows active mbox msg states ≡ o → choice_by rows o ≡ chose.Nothing → o ≡ None
nothing_by rows active mbox msg states None e nothing = refl
nothing_by rows active mbox msg states (Some k) e nothing =
    let answer = answering-answer rows active mbox msg states k e in
    absurd (choice_by-some rows k answer.row answer.numbered nothing)

-- nothing is chosen where no row answers, and only there
pub nothing_answering : (rows : List Row) (active : List Bool) (mbox : MboxId) (msg : MsgId) (states : List StateId) → choice_by rows (answering rows active mbox msg states) ≡ chose.Nothing → answering rows active mbox msg states ≡ None
nothing_answering rows active mbox msg states nothing = nothing_by rows active mbox msg states (answering rows active mbox msg states) refl nothing
