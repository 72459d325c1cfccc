use Rattle.std.proofs.Common.{◌++◌, ap, ◌∙◌}
use Rattle.std.specs.Prelude.{reverse}
use Rattle.std.proofs.lemmas.List.{reverse-append, reverse-reverse}
use Rattle.so_state.specs.Plan.{enters, staying}
use Rattle.so_state.proofs.Ways.{path-enters}
use Rattle.so_state.proofs.laws.enters_run_down_to_the_leaf.Goals as goal

pub returns : goal.returns
returns c = λ states from leaf tree.
    ap reverse (path-enters states from leaf tree)
    ∙ (reverse-append (reverse (enters states from leaf)) (staying states from leaf)
    ∙ ap (λ l. reverse (staying states from leaf) ++ l) (reverse-reverse (enters states from leaf)))
