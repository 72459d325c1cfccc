use Rattle.std.proofs.Common.{◌≡◌, ◌<◌, length, ap, sym, ◌∙◌, arith}
use Rattle.so_lists.specs.Lists.{first_below}
use Rattle.so_scene.proofs.FirstFault.{stops_here, goes_on}
use Rattle.so_tables.specs.Attempts.{AttemptTable, untried_at}
use Rattle.so_tables.proofs.attempts.first_untried.Goals as goal

pub returns-then-is_some : goal.returns-then-is_some
returns-then-is_some c =
    let t : AttemptTable = record { scene = c.args.scene.now; tried = c.args.tried.now } in
    let within : c.loop-k.k < length c.args.scene.now.coops = omega (arith, c.loop-k-test.true, c.coops-k-end.ensures) in
    stops_here (untried_at t) (length c.args.scene.now.coops) c.loop-k.k c.untried_at-next.result within c.loop-k.invariant c.untried_at-next.ensures (sym c.if-is_some.true ∙ c.is_some.ensures)

pub loop-k-preserved : goal.loop-k-preserved
loop-k-preserved c =
    let t : AttemptTable = record { scene = c.args.scene.now; tried = c.args.tried.now } in
    goes_on (untried_at t) c.loop-k.k c.untried_at-next.result c.loop-k.invariant c.untried_at-next.ensures (sym c.if-is_some.false ∙ c.is_some.ensures)

pub returns : goal.returns
returns c =
    let t : AttemptTable = record { scene = c.args.scene.now; tried = c.args.tried.now } in
    let same : c.loop-k.k ≡ length c.args.scene.now.coops = omega (arith, c.loop-k-test.false, c.loop-k.auto.k-end, c.coops-k-end.ensures) in
    sym (sym (ap (first_below (untried_at t)) same) ∙ c.loop-k.invariant)
