use Rattle.std.proofs.Common.{◌≡◌, None, ap}
use Rattle.std.proofs.lemmas.List.Elements.{recursion_from_All}
use Rattle.so_state.specs.States.{path}
use Rattle.so_state.specs.Choice.{row_in, choice_by}
use Rattle.so_state.proofs.Answering.{answering-dead}
use Rattle.so_state.proofs.laws.a_dead_letter_row_answers_where_no_state_has_a_row.Goals as goal

pub returns : goal.returns
returns c = λ states rows active leaf mbox msg none.
    ap (choice_by rows) (answering-dead rows active mbox msg (path states leaf) (recursion_from_All (λ t. row_in rows active mbox msg t ≡ None) (path states leaf) none))
