use Rattle.std.proofs.Common.{arith, refl, ◌∙◌}
use Rattle.std.proofs.lemmas.List.{length-set}
use Rattle.so_mbox.proofs.DepartureLaws.{cleared-none, cleared-next}
use Rattle.so_mbox.proofs.table.clear_each.Goals as goal

pub loop-k-init : goal.loop-k-init
loop-k-init c = record { count = refl; done = cleared-none c.args.first c.args.rows.now.items }

pub loop-k-preserved : goal.loop-k-preserved
loop-k-preserved c = rw c.clear.ensures (record {
  count = length-set _ _ _ ∙ c.loop-k.invariant.count;
  done = cleared-next c.args.first c.loop-k.k c.args.rows.now.items _ _ (omega (arith, c.requires.within, c.loop-k.invariant.count, c.loop-k-test.true)) c.loop-k.invariant.done c.index_mut.ensures.value;
})
