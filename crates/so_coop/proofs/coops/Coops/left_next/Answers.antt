use Rattle.std.proofs.Common.{◌≡◌, ◌<◌, length, ap, sym, ◌∙◌, arith}
use Rattle.so_lists.specs.Lists.{first_below}
use Rattle.so_scene.proofs.FirstFault.{stops_here, goes_on}
use Rattle.so_coop.specs.Coops.{CoopTable, ended_at}
use Rattle.so_coop.proofs.CountLaws.{ended_never}
use Rattle.so_coop.proofs.coops.Coops.left_next.Goals as goal

pub returns-then-is_some : goal.returns-then-is_some
returns-then-is_some c =
    let within : c.loop-k.k < length c.args.self.now.scene.coops = omega (arith, c.loop-k-test.true, c.coops-k-end.ensures, ap (λ (t : CoopTable). length t.scene.coops) c.self.view_is) in
    stops_here (ended_at c.args.self.now) (length c.args.self.now.scene.coops) c.loop-k.k c.ended_at-ended.result within c.loop-k.invariant c.ended_at-ended.ensures (sym c.if-is_some.true ∙ c.is_some.ensures)

pub loop-k-preserved : goal.loop-k-preserved
loop-k-preserved c = goes_on (ended_at c.args.self.now) c.loop-k.k c.ended_at-ended.result c.loop-k.invariant c.ended_at-ended.ensures (sym c.if-is_some.false ∙ c.is_some.ensures)

pub returns : goal.returns
returns c =
    let same : c.loop-k.k ≡ length c.args.self.now.scene.coops = omega (arith, c.loop-k-test.false, c.loop-k.auto.k-end, c.coops-k-end.ensures, ap (λ (t : CoopTable). length t.scene.coops) c.self.view_is) in
    sym (sym (ap (first_below (ended_at c.args.self.now)) same) ∙ c.loop-k.invariant)

pub returns-then-self-eq0 : goal.returns-then-self-eq0
returns-then-self-eq0 c = rw (← c.self.view_is) (ended_never (record { scene = c.self.inside.scene.now; coops = c.self.inside.coops.items }) c.self.inside.counts c.self.invariant.counts c.if-self-eq0.true)
