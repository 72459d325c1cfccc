use Rattle.std.proofs.Common.{◌≡◌, length, sym, ap, ◌∙◌, arith, refl}
use Rattle.sorun.specs.Loads.{begins, handled}
use Rattle.sorun.proofs.LoadLaws.{below, below-none, below-all, handled-more, bit-small}
use Rattle.sorun.proofs.load.handled.Goals as goal

pub loop-place-init : goal.loop-place-init
loop-place-init c = (ap handled (sym (below-none c.args.history.now.entries)), omega arith)

pub loop-place-preserved : goal.loop-place-preserved
loop-place-preserved c =
    let more = handled-more c.args.history.now.entries c.loop-place.place c.loop-place.count c.get.result (begins c.get.result) c.get.ensures c.loop-place.invariant.0 refl in
    (rw c.begins-count.ensures more, omega (arith, c.loop-place.invariant.1, bit-small (begins c.get.result), c.begins-count.ensures))

pub returns : goal.returns
returns c =
    let all : c.loop-place.place ≡ length c.args.history.now.entries = omega (arith, c.loop-place-test.false, c.loop-place.auto.place-end, c.len-place-end.ensures.value) in
    c.loop-place.invariant.0 ∙ ap handled (ap (below c.args.history.now.entries) all ∙ below-all c.args.history.now.entries)
