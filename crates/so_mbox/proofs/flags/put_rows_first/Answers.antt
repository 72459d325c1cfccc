use Rattle.std.proofs.Common.{◌≡◌, length, arith, add-one, ap, ◌∙◌}
use Rattle.so_mbox.proofs.FlagLaws.{as_first, written, written-at, written-all, rows-written}
use Rattle.so_mbox.proofs.flags.put_rows_first.Goals as goal

pub loop-k-preserved : goal.loop-k-preserved
loop-k-preserved c = rw (c.loop-k.invariant, add-one) (written-at as_first _ _ _ _ c.loop-k-test.true c.requires)

pub returns : goal.returns
returns c =
    let all : c.loop-k.k ≡ length c.args.rows.now = omega arith in
    c.loop-k.invariant ∙ (ap (λ n. written as_first n c.args.rows.now c.args.flags.now) all ∙ (written-all as_first c.args.rows.now c.args.flags.now c.requires ∙ rows-written c.args.rows.now c.args.flags.now c.requires))
