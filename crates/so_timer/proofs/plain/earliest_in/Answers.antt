use Rattle.std.proofs.Common.{◌≡◌, ◌+◌, ◌-◌, length, arith, refl, ◌∙◌}
use Rattle.so_timer.specs.Timers.{earliest_of}
use Rattle.so_timer.proofs.ScanLaws.{rest-end, earliest-step}
use Rattle.so_timer.proofs.plain.earliest_in.Goals as goal

pub loop-at-init : goal.loop-at-init
unfolding earliest_of
loop-at-init c = record { within = omega arith; is = rw (rest-end c.args.slots.now (length c.args.slots.now) refl) refl }

pub loop-at-preserved : goal.loop-at-preserved
loop-at-preserved c =
    let before : c.loop-at.at ≡ (c.loop-at.at - 1) + 1 = omega arith in
    record {
      within = omega arith;
      is = c.earlier-best.ensures ∙ earliest-step c.args.slots.now c.args.after c.loop-at.at (c.loop-at.at - 1) c.loop-at.best before c.loop-at.invariant.within c.loop-at.invariant.is;
    }
