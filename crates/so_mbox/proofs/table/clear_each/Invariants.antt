use Rattle.std.proofs.Common.{◌≡◌, length}
use Rattle.so_scene.specs.Parts.{agents_from}
use Rattle.so_mbox.specs.Table.{cleared}
use Rattle.so_mbox.proofs.table.clear_each.Given as goal

abbrev pub invariant-loop-k : goal.invariant-loop-k
invariant-loop-k l = record {
  count : length l.rows.items ≡ length l.fn.rows.items;
  done : l.rows.items ≡ cleared (agents_from l.first l.k) l.fn.rows.items;
}
