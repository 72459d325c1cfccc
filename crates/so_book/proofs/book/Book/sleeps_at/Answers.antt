use Rattle.std.proofs.Common.{rules, refl}
use Rattle.so_book.proofs.Steps.{looks_at}
use Rattle.so_book.proofs.book.Book.sleeps_at.Goals as goal

pub load-word-requires : goal.load-word-requires
load-word-requires g c =
    let sized = c.args.self.now.sized in
    (search rules, search rules, looks_at g.V.Chronicle.history g.V.Chronicle.signer c.args.self.now.table.shared.key.seats _ _ _ _ _ _ _ c.requires.1 refl)
