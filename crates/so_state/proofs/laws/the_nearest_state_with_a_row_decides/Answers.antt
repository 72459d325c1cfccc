use Rattle.std.proofs.Common.{◌≡◌, None, ap, ◌∙◌}
use Rattle.std.proofs.lemmas.List.Elements.{recursion_from_All}
use Rattle.so_state.specs.Choice.{row_in, answering, choice_by}
use Rattle.so_state.proofs.Answering.{answering-nearest}
use Rattle.so_state.proofs.laws.the_nearest_state_with_a_row_decides.Goals as goal

pub returns : goal.returns
returns c = λ states rows active leaf mbox msg inner outer s k split none some.
    ap (λ l. choice_by rows (answering rows active mbox msg l)) split
    ∙ ap (choice_by rows) (answering-nearest rows active mbox msg inner s outer k (recursion_from_All (λ t. row_in rows active mbox msg t ≡ None) inner none) some)
