use Rattle.std.proofs.Common.{◌≡◌, Some, None, arith, refl, sym, ap, ◌∙◌}
use Rattle.so_scene.specs.Definition.{definition_fault}
use Rattle.so_coop.specs.Coops.{CoopTable}
use Rattle.so_coop.proofs.AgentLaws.{rule_refused}
use Rattle.so_coop.proofs.CountLaws.{judged_at, many_judged}
use Rattle.so_coop.proofs.coops.Coops.rule_refused.Goals as goal

pub index-requires : goal.index-requires
index-requires c =
    let within = rw (← c.self.view_is) at c.agent_at-agent.ensures.range in
    let many = many_judged _ _ c.self.invariant.judged in
    omega (arith, within, many)

pub returns-in-Some : goal.returns-in-Some
returns-in-Some c =
    let within = rw (← c.self.view_is) at c.agent_at-agent.ensures.range in
    let here = judged_at c.self.inside.scene.now c.self.inside.faults.items c.agent_at-agent.result _ c.self.invariant.judged within c.index.ensures in
    let is : definition_fault c.args.self.now.scene c.agent_at-agent.result ≡ Some c.in-Some.fault = sym (ap (λ (t : CoopTable). definition_fault t.scene c.agent_at-agent.result) c.self.view_is) ∙ (sym here ∙ c.in-Some.is) in
    rw (rule_refused c.args.self.now.scene c.args.coop c.args.k c.requires.agent, ← c.agent_at-agent.ensures.value, is) refl

pub returns-in-None : goal.returns-in-None
returns-in-None c =
    let within = rw (← c.self.view_is) at c.agent_at-agent.ensures.range in
    let here = judged_at c.self.inside.scene.now c.self.inside.faults.items c.agent_at-agent.result _ c.self.invariant.judged within c.index.ensures in
    let is : definition_fault c.args.self.now.scene c.agent_at-agent.result ≡ None = sym (ap (λ (t : CoopTable). definition_fault t.scene c.agent_at-agent.result) c.self.view_is) ∙ (sym here ∙ c.in-None.is) in
    rw (rule_refused c.args.self.now.scene c.args.coop c.args.k c.requires.agent, ← c.agent_at-agent.ensures.value, is) refl
