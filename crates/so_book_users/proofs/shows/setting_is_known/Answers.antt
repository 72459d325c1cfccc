use Rattle.std.proofs.Common.{[], ap, ◌∙◌, subst, refl}
use Rattle.std.specs.Prelude.{All}
use Rattle.so_book.specs.Passes.{ArePartiesFrom, HasSeen}
use Rattle.so_book.proofs.Passing.{all_last, parties_last}
use Rattle.so_book_users.specs.Opened.{line_signer, lines}
use Rattle.so_book_users.proofs.shows.setting_is_known.Goals as goal

pub lanes-pass-requires : goal.lanes-pass-requires
lanes-pass-requires g c =
    let left = c.pop.new.self.items in
    let pass = c.in-Some.pass in
    let e = c.in-Some.ensures.items in
    let seen = all_last (HasSeen line_signer _) left pass (subst (All (HasSeen line_signer _)) e c.in-Ok.ensures.seen) in
    let of = parties_last c.in-Ok.book 0 left pass (subst (ArePartiesFrom c.in-Ok.book 0) e c.in-Ok.ensures.passes.1) in
    (of.0, ([], _, seen.0 ∙ ap (lines _) c.new.ensures.items, refl))
