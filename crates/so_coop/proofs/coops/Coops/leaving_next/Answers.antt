use Rattle.std.proofs.Common.{◌≡◌, ◌<◌, length, ap, sym, ◌∙◌, arith}
use Rattle.so_lists.specs.Lists.{first_below}
use Rattle.so_scene.proofs.FirstFault.{stops_here, goes_on}
use Rattle.so_scene.specs.Cooperations.{leaving_at}
use Rattle.so_coop.specs.Coops.{CoopTable, standing}
use Rattle.so_coop.proofs.CountLaws.{none_stays, none_marked}
use Rattle.so_coop.proofs.coops.Coops.leaving_next.Goals as goal

pub returns-then-is_some : goal.returns-then-is_some
returns-then-is_some c =
    let within : c.loop-k.k < length c.args.self.now.scene.coops = omega (arith, c.loop-k-test.true, c.coops-k-end.ensures, ap (λ (t : CoopTable). length t.scene.coops) c.self.view_is) in
    stops_here (leaving_at c.args.self.now.scene (standing c.args.self.now c.args.stopped)) (length c.args.self.now.scene.coops) c.loop-k.k c.leaving_at-leaving.result within c.loop-k.invariant c.leaving_at-leaving.ensures (sym c.if-is_some.true ∙ c.is_some.ensures)

pub loop-k-preserved : goal.loop-k-preserved
loop-k-preserved c = goes_on (leaving_at c.args.self.now.scene (standing c.args.self.now c.args.stopped)) c.loop-k.k c.leaving_at-leaving.result c.loop-k.invariant c.leaving_at-leaving.ensures (sym c.if-is_some.false ∙ c.is_some.ensures)

pub returns : goal.returns
returns c =
    let same : c.loop-k.k ≡ length c.args.self.now.scene.coops = omega (arith, c.loop-k-test.false, c.loop-k.auto.k-end, c.coops-k-end.ensures, ap (λ (t : CoopTable). length t.scene.coops) c.self.view_is) in
    sym (sym (ap (first_below (leaving_at c.args.self.now.scene (standing c.args.self.now c.args.stopped))) same) ∙ c.loop-k.invariant)

pub returns-then-self-eq0 : goal.returns-then-self-eq0
returns-then-self-eq0 c = rw (← c.self.view_is) (none_stays (record { scene = c.self.inside.scene.now; coops = c.self.inside.coops.items }) c.args.stopped c.self.inside.counts c.self.invariant.counts c.if-self-eq0.true)

pub returns-then-not-stopped : goal.returns-then-not-stopped
returns-then-not-stopped c = rw (← c.self.view_is, c.if-not-stopped.true) (none_marked (record { scene = c.self.inside.scene.now; coops = c.self.inside.coops.items }) c.self.inside.counts c.self.invariant.counts c.if-self-eq0-2.true c.if-self-eq0-3.true)
