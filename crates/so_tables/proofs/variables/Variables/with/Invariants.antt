use Rattle.std.proofs.Common.{◌≡◌}
use Rattle.so_tables.specs.Tables.{first_vars}
use Rattle.so_tables.proofs.variables.Variables.with.Given as goal

abbrev pub invariant-loop-agent : goal.invariant-loop-agent
invariant-loop-agent l = l.list.items ≡ first_vars l.scene l.agent
