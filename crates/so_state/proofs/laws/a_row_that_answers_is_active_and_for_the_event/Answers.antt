use Rattle.so_state.specs.States.{path}
use Rattle.so_state.proofs.Answering.{answering-answer}
use Rattle.so_state.proofs.laws.a_row_that_answers_is_active_and_for_the_event.Goals as goal

pub returns : goal.returns
returns c = λ states rows active leaf mbox msg k found. answering-answer rows active mbox msg (path states leaf) k found
