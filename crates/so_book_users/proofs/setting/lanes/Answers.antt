use Rattle.std.proofs.Common.{rules, sym, subst}
use Rattle.so_book_users.specs.Opened.{IsOpenedOver}
use Rattle.so_book_users.proofs.OpenedLemmas.{still_opened}
use Rattle.so_book_users.proofs.setting.lanes.Goals as goal

pub returns-clause-pass : goal.returns-clause-pass
returns-clause-pass g c =
    (search rules, subst (IsOpenedOver c.args.setting.now) (sym c.close.ensures.seen) (still_opened c.args.setting.now _ _ c.hold-held.ensures.seen c.requires.1))
