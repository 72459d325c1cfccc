use Rattle.std.proofs.Common.{◌<◌, length, arith, refl}
use Rattle.so_mbox.proofs.CandidateLaws.{listed-same}
use Rattle.so_mbox.proofs.TableLaws.{flags_at, kept-set_filter}
use Rattle.so_mbox.proofs.table.Table.set_filter.Goals as goal

pub invariant_of-self : goal.invariant_of-self
invariant_of-self c =
    let within = rw (← c.self.view_is) at c.requires.agent in
    let place : c.args.agent.0 < length c.self.inside.filters.items = omega (arith, within, c.self.invariant.0.filters) in
    let flags = flags_at c.self.inside.filters.items c.args.agent.0 c.index_mut-filters.result.now place c.index_mut-filters.ensures.value in
    let kept = kept-set_filter _ c.args.agent c.args.filter c.self.invariant.0 within in
    rw (c.set_filter.ensures, c.as_slice-defs.ensures, c.agent.ensures.value, flags) (kept, c.self.invariant.1, listed-same _ _ _ refl refl c.self.invariant.2)
