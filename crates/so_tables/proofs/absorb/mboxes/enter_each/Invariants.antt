use Rattle.std.proofs.Common.{◌≡◌}
use Rattle.so_scene.specs.Parts.{agents_from}
use Rattle.so_mbox.specs.Table.{entered}
use Rattle.so_tables.proofs.absorb.mboxes.enter_each.Given as goal

abbrev pub invariant-loop-k : goal.invariant-loop-k
invariant-loop-k l = l.mboxes ≡ entered (agents_from l.first l.k) l.fn.mboxes
