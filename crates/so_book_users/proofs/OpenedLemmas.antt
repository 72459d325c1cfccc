-- A history goes on being opened over its setting.
use Rattle.std.proofs.Common.{List, [], ◌∷◌, ◌++◌, ap, sym, ◌∙◌}
use Rattle.std.proofs.lemmas.List.{append_assoc}
use Rattle.so_book.specs.History.{Began}
use Rattle.so_book_users.specs.declared.setting.Setting.{Setting}
use Rattle.so_book_users.specs.declared.setting.Line.{Line}
use Rattle.so_book_users.specs.declared.setting.Line.TheVariants.{Opened}
use Rattle.so_book_users.specs.Opened.{IsOpenedOver}

pub still_opened : (setting : Setting) (seen now : List Line) → Began seen now → IsOpenedOver setting seen → IsOpenedOver setting now
still_opened setting seen now began over = (began.0 ++ over.0, over.1, began.1 ∙ ap (λ l. began.0 ++ l) over.2 ∙ sym (append_assoc began.0 over.0 (Opened over.1 ∷ [])), over.3)
