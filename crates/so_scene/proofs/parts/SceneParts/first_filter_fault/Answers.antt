use Rattle.std.proofs.Common.{◌≡◌, ap, sym, ◌∙◌, arith}
use Rattle.so_lists.specs.Lists.{first_below}
use Rattle.so_scene.specs.Definition.{filter_fault}
use Rattle.so_scene.proofs.FirstFault.{stops_here, goes_on}
use Rattle.so_scene.proofs.parts.SceneParts.first_filter_fault.Goals as goal

pub returns-then-is_some : goal.returns-then-is_some
returns-then-is_some c =
    stops_here (filter_fault c.args.self.now c.args.agent) c.args.count c.loop-k.k c.filter_fault_at-fault.result c.loop-k-test.true c.loop-k.invariant c.filter_fault_at-fault.ensures (sym c.if-is_some.true ∙ c.is_some.ensures)

pub loop-k-preserved : goal.loop-k-preserved
loop-k-preserved c =
    goes_on (filter_fault c.args.self.now c.args.agent) c.loop-k.k c.filter_fault_at-fault.result c.loop-k.invariant c.filter_fault_at-fault.ensures (sym c.if-is_some.false ∙ c.is_some.ensures)

pub returns : goal.returns
returns c =
    let same : c.loop-k.k ≡ c.args.count = omega (arith, c.loop-k-test.false, c.loop-k.auto.k-end) in
    sym (sym (ap (first_below (filter_fault c.args.self.now c.args.agent)) same) ∙ c.loop-k.invariant)
