use Rattle.std.proofs.Common.{◌≡◌, length, arith, add-one, ap, sym, ◌∙◌}
use Rattle.so_scene.specs.Subscriptions.{filters_first}
use Rattle.so_mbox.proofs.FlagLaws.{as_copied, written, written-at, written-all, all-copied, length-filters_first}
use Rattle.so_mbox.proofs.flags.put_filters_first.Goals as goal

pub loop-k-preserved : goal.loop-k-preserved
loop-k-preserved c =
    let size = length-filters_first c.args.filters.now in
    rw (c.is_active_first.ensures, c.loop-k.invariant, add-one)
    (written-at as_copied c.loop-k.k (filters_first c.args.filters.now) c.args.flags.now _ (omega (arith, c.loop-k-test.true, size)) (c.requires ∙ sym size))

pub returns : goal.returns
returns c =
    let size = length-filters_first c.args.filters.now in
    let same : length c.args.flags.now ≡ length (filters_first c.args.filters.now) = c.requires ∙ sym size in
    let all : c.loop-k.k ≡ length (filters_first c.args.filters.now) = omega (arith, size) in
    c.loop-k.invariant ∙ (ap (λ n. written as_copied n (filters_first c.args.filters.now) c.args.flags.now) all ∙ (written-all as_copied (filters_first c.args.filters.now) c.args.flags.now same ∙ all-copied (filters_first c.args.filters.now) c.args.flags.now same))
