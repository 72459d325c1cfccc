use Rattle.std.proofs.Common.{◌≡◌, ◌+◌, ◌-◌, length, arith, refl, ◌∙◌}
use Rattle.so_timer.specs.Timers.{next_of}
use Rattle.so_timer.proofs.ScanLaws.{rest-end, next-step}
use Rattle.so_timer.proofs.plain.next_in.Goals as goal

pub loop-at-init : goal.loop-at-init
unfolding next_of
loop-at-init c = record { within = omega arith; is = rw (rest-end c.args.slots.now (length c.args.slots.now) refl) refl }

pub loop-at-preserved : goal.loop-at-preserved
loop-at-preserved c =
    let before : c.loop-at.at ≡ (c.loop-at.at - 1) + 1 = omega arith in
    record {
      within = omega arith;
      is = c.nearer-best.ensures ∙ next-step c.args.slots.now c.loop-at.at (c.loop-at.at - 1) c.loop-at.best before c.loop-at.invariant.within c.loop-at.invariant.is;
    }
