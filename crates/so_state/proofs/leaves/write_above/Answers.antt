use Rattle.std.proofs.Common.{◌<◌, ◌∙◌, get_or, length, arith}
use Rattle.std.proofs.Math.ListN.{length-set}
use Rattle.so_ids.specs.Ids.{default_state}
use Rattle.so_state.proofs.Kept.{kept_more}
use Rattle.so_state.proofs.leaves.write_above.Goals as goal

pub loop-s-preserved : goal.loop-s-preserved
loop-s-preserved c =
    let here : (get_or c.args.above.now c.loop-s.s-index default_state).0 < 64 = c.requires c.loop-s.s-index default_state c.loop-s-test.true in
    let within : (get_or c.args.above.now c.loop-s.s-index default_state).0 < length c.loop-s.last = omega (arith, here, c.loop-s.invariant.0) in
    (length-set _ _ _ ∙ c.loop-s.invariant.0, kept_more c.loop-s.last c.args.last.now c.args.above.now c.loop-s.s-index c.args.leaf within c.loop-s-test.true c.loop-s.invariant.1)
