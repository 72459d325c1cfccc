use Rattle.std.proofs.Common.{◌&&◌, ap, refl, ◌∙◌}
use Rattle.std.proofs.lemmas.Bool.{and_right}
use Rattle.std.specs.Prelude.{not}
use Rattle.so_state.specs.States.{is_on, path}
use Rattle.so_state.proofs.Ways.{is_on-exits, is_on-enters}
use Rattle.so_state.proofs.laws.a_common_ancestor_stays.Goals as goal

pub returns-clause-left : goal.returns-clause-left
returns-clause-left c = λ states from leaf s upper lower. is_on-exits states from leaf s ∙ ap (λ b. is_on (path states from) s && not b) lower ∙ and_right _ _ refl

pub returns-clause-entered : goal.returns-clause-entered
returns-clause-entered c = λ states from leaf s upper lower. is_on-enters states from leaf s ∙ ap (λ b. is_on (path states leaf) s && not b) upper ∙ and_right _ _ refl
