use Rattle.std.proofs.Common.{◌≡◌, ◌≤◌, length, map, take, vec_capacity}
use Rattle.so_mbox.specs.Table.{all_none}
use Rattle.so_mbox.proofs.table.no_rows.Given as goal

abbrev pub invariant-loop-agent : goal.invariant-loop-agent
invariant-loop-agent l = record {
  made : l.rows.items ≡ map all_none (take l.agent-index l.agents);
  room : length l.agents ≤ vec_capacity l.rows;
}
