use Rattle.std.proofs.Common.{◌≡◌, ◌<◌, length, ap, sym, ◌∙◌, arith}
use Rattle.so_lists.specs.Lists.{first_below}
use Rattle.so_scene.proofs.FirstFault.{stops_here, goes_on}
use Rattle.so_scene.specs.Parts.{agents_of}
use Rattle.so_scene.specs.Cooperations.{refused_rule}
use Rattle.so_coop.proofs.AgentLaws.{many_agents}
use Rattle.so_coop.proofs.coops.Coops.first_against_rule.Goals as goal

pub returns-then-is_some : goal.returns-then-is_some
returns-then-is_some c =
    let within : c.loop-k.k < length (agents_of c.args.self.now.scene c.args.coop) = omega (arith, c.loop-k-test.true, many_agents c.args.self.now.scene c.args.coop, c.size-k-end.ensures) in
    stops_here (refused_rule c.args.self.now.scene (agents_of c.args.self.now.scene c.args.coop)) (length (agents_of c.args.self.now.scene c.args.coop)) c.loop-k.k c.rule_refused-cause.result within c.loop-k.invariant c.rule_refused-cause.ensures (sym c.if-is_some.true ∙ c.is_some.ensures)

pub loop-k-preserved : goal.loop-k-preserved
loop-k-preserved c = goes_on (refused_rule c.args.self.now.scene (agents_of c.args.self.now.scene c.args.coop)) c.loop-k.k c.rule_refused-cause.result c.loop-k.invariant c.rule_refused-cause.ensures (sym c.if-is_some.false ∙ c.is_some.ensures)

pub returns : goal.returns
returns c =
    let same : c.loop-k.k ≡ length (agents_of c.args.self.now.scene c.args.coop) = omega (arith, c.loop-k-test.false, c.loop-k.auto.k-end, many_agents c.args.self.now.scene c.args.coop, c.size-k-end.ensures) in
    sym (sym (ap (first_below (refused_rule c.args.self.now.scene (agents_of c.args.self.now.scene c.args.coop))) same) ∙ c.loop-k.invariant)
