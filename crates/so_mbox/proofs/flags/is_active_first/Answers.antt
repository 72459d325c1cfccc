use Rattle.std.proofs.Common.{refl}
use Rattle.so_mbox.proofs.FlagLaws.{first-at}
use Rattle.so_mbox.proofs.flags.is_active_first.Goals as goal

pub returns-then-not-filter : goal.returns-then-not-filter
returns-then-not-filter c = rw (first-at c.args.filters.now c.args.k c.index-filters-k.result c.requires c.index-filters-k.is, c.if-not-filter.true) refl

pub returns : goal.returns
returns c = rw (first-at c.args.filters.now c.args.k c.index-filters-k.result c.requires c.index-filters-k.is, c.if-not-filter.false, c.is_replaced.ensures, c.after.ensures) refl
