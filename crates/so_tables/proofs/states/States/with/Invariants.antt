use Rattle.std.proofs.Common.{◌≡◌, length}
use Rattle.so_tables.specs.States.{AreNew}
use Rattle.so_tables.proofs.states.States.with.Given as goal

abbrev pub invariant-loop-agent : goal.invariant-loop-agent
invariant-loop-agent l = (length l.list.items ≡ l._agent) × AreNew l._agent l.list.items
