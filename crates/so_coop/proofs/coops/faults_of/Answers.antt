use Rattle.std.proofs.Common.{length, arith, ap, ◌∙◌}
use Rattle.so_lists.proofs.EachBelow.{length-each_below}
use Rattle.so_coop.specs.Counts.{fault_of}
use Rattle.so_coop.proofs.CountLaws.{judged_none, judged_next}
use Rattle.so_coop.proofs.coops.faults_of.Goals as goal

pub loop-k-init : goal.loop-k-init
loop-k-init c = record {
  judged = judged_none c.args.scene.now _ c.in_ok-faults.ensures.items;
  room = omega (arith, c.in_ok-faults.ensures.capacity, c.agents.ensures);
}

pub push_reserved-requires : goal.push_reserved-requires
push_reserved-requires c =
    let many = ap length c.loop-k.invariant.judged ∙ length-each_below (fault_of c.args.scene.now) c.loop-k.k in
    omega (arith, many, c.loop-k.invariant.room, c.loop-k-test.true, c.agents-k-end.ensures)

pub loop-k-preserved : goal.loop-k-preserved
loop-k-preserved c = record {
  judged = rw (c.push_reserved.ensures.items, c.definition_fault.ensures) (judged_next c.args.scene.now c.loop-k.k _ c.loop-k.invariant.judged);
  room = omega (arith, c.loop-k.invariant.room, c.push_reserved.ensures.capacity);
}
