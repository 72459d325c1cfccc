use Rattle.std.proofs.Common.{ap}
use Rattle.so_state.specs.States.{path}
use Rattle.so_state.specs.Choice.{choice_by}
use Rattle.so_state.proofs.Answering.{nothing_answering}
use Rattle.so_state.proofs.laws.nothing_is_chosen_exactly_where_no_row_answers.Goals as goal

pub returns : goal.returns
returns c = λ states rows active leaf mbox msg. (nothing_answering rows active mbox msg (path states leaf), λ none. ap (choice_by rows) none)
