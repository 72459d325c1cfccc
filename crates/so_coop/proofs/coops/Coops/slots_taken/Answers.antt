use Rattle.std.proofs.Common.{false, arith, sym, ◌∙◌}
use Rattle.so_lists.proofs.Counts.{count-none, count-more, count-same}
use Rattle.so_scene.specs.Lanes.{agent_number}
use Rattle.so_scene.specs.Cooperations.{has_slot}
use Rattle.so_coop.specs.Coops.{standing}
use Rattle.so_coop.proofs.coops.Coops.slots_taken.Goals as goal
use Rattle.so_coop.proofs.coops.Coops.slots_taken.Goals.{then-has_slot, else-has_slot}

pub loop-k-init : goal.loop-k-init
loop-k-init c = record { counted = sym (count-none (has_slot c.args.self.now.scene (standing c.args.self.now false) c.args.disp) (agent_number)); few = omega arith }

pub loop-k-preserved : goal.loop-k-preserved
loop-k-preserved c =
    elim c.if-has_slot.branch [
      | then-has_slot w ↦
          (let more = count-more (has_slot c.args.self.now.scene (standing c.args.self.now false) c.args.disp) (agent_number) c.loop-k.k (sym c.has_slot.ensures ∙ w.if-has_slot.true) in
          record { counted = omega (arith, w.taken-is, more, c.loop-k.invariant.counted); few = omega (arith, w.taken-is, c.loop-k.invariant.few) })
      | else-has_slot w ↦
          (let same = count-same (has_slot c.args.self.now.scene (standing c.args.self.now false) c.args.disp) (agent_number) c.loop-k.k (sym c.has_slot.ensures ∙ w.if-has_slot.false) in
          record { counted = omega (arith, w.taken-is, same, c.loop-k.invariant.counted); few = omega (arith, w.taken-is, c.loop-k.invariant.few) })
    ]
