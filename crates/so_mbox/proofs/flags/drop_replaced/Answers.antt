use Rattle.std.proofs.Common.{◌≡◌, length, arith, add-one, ap, sym, ◌∙◌}
use Rattle.so_scene.specs.Subscriptions.{stays_beside}
use Rattle.so_mbox.proofs.FlagLaws.{written, written-next, written-all}
use Rattle.so_mbox.proofs.flags.drop_replaced.Goals as goal

pub loop-k-preserved : goal.loop-k-preserved
loop-k-preserved c =
    rw (c.stays_beside.ensures, c.loop-k.invariant, add-one)
    (written-next (stays_beside c.args.new.now) _ _ _ _ c.loop-k-test.true c.requires (sym c.index-filters-k.is))

pub returns : goal.returns
returns c =
    let all : c.loop-k.k ≡ length c.args.filters.now = omega arith in
    c.loop-k.invariant ∙ (ap (λ n. written (stays_beside c.args.new.now) n c.args.filters.now c.args.flags.now) all ∙ written-all (stays_beside c.args.new.now) c.args.filters.now c.args.flags.now c.requires)
