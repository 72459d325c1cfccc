use Rattle.std.proofs.Common.{◌≡◌, ◌++◌, ◌∷◌, [], length, arith, ◌∙◌, subst}
use Rattle.std.proofs.lemmas.List.{length-append}
use Rattle.so_tables.specs.States.{AreNew}
use Rattle.so_tables.proofs.StateLaws.{new_pushed, all_new}
use Rattle.so_tables.proofs.states.States.with.Goals as goal

pub loop-agent-preserved : goal.loop-agent-preserved
loop-agent-preserved c =
    let items : c.push.new.self.items ≡ c.loop-agent.list.items ++ c.new.result ∷ [] = grind (arith, c.push.ensures.items, c.is_err.ensures.value, c.is_err.ensures.negation, c.if-is_err.false) in
    rw items (
      length-append c.loop-agent.list.items (c.new.result ∷ []) ∙ omega (arith, c.loop-agent.invariant.0),
      new_pushed c.loop-agent._agent c.loop-agent.list.items c.new.result c.loop-agent.invariant.0 c.new.ensures c.loop-agent.invariant.1,
    )

pub returns : goal.returns
returns c =
    let all : c.loop-agent._agent ≡ length c.args.scene.now.agents = omega (arith, c.loop-agent-test.false, c.loop-agent.auto._agent-end, c.agents-agent-end.ensures) in
    all_new c.args.scene.now c.loop-agent.list.items (c.loop-agent.invariant.0 ∙ all) (subst (λ n. AreNew n c.loop-agent.list.items) all c.loop-agent.invariant.1)
