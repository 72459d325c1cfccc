use Rattle.std.proofs.Common.{◌≡◌, ◌+◌, ◌-◌, length, arith, refl, ◌∙◌}
use Rattle.so_timer.specs.Slots.{slot_at}
use Rattle.so_timer.proofs.ScanLaws.{rest-end, count-step, more_armed-le}
use Rattle.so_timer.proofs.plain.count_in.Goals as goal

pub loop-at-init : goal.loop-at-init
loop-at-init c = record { within = omega arith; few = omega arith; is = rw (rest-end c.args.slots.now (length c.args.slots.now) refl) refl }

pub loop-at-preserved : goal.loop-at-preserved
loop-at-preserved c =
    let before : c.loop-at.at ≡ (c.loop-at.at - 1) + 1 = omega arith in
    record {
      within = omega arith;
      few = omega (arith, more_armed-le (slot_at c.args.slots.now (c.loop-at.at - 1)) c.loop-at.count);
      is = c.counted-count.ensures ∙ count-step c.args.slots.now c.loop-at.at (c.loop-at.at - 1) c.loop-at.count before c.loop-at.invariant.within c.loop-at.invariant.is;
    }
