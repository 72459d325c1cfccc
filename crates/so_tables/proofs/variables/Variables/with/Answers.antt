use Rattle.std.proofs.Common.{arith, sym, ◌∙◌}
use Rattle.so_tables.proofs.VarLaws.{no_vars, vars_more}
use Rattle.so_tables.proofs.variables.Variables.with.Goals as goal

pub loop-agent-init : goal.loop-agent-init
loop-agent-init c = c.new-list.ensures.items ∙ sym (no_vars c.args.scene.now)

pub loop-agent-preserved : goal.loop-agent-preserved
loop-agent-preserved c = grind (arith, c.push.ensures.items, c.push.ensures.value_returned, c.loop-agent.invariant, c.agent.ensures.value, vars_more c.args.scene.now c.loop-agent.agent, c.if-is_err.ensures.value, c.if-is_err.false)
