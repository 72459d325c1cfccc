use Rattle.std.proofs.Common.{◌≡◌, ◌≤◌, length, map, take, vec_capacity}
use Rattle.so_mbox.specs.Table.{all_filters_first}
use Rattle.so_mbox.proofs.table.first_filters.Given as goal

abbrev pub invariant-loop-agent : goal.invariant-loop-agent
invariant-loop-agent l = record {
  made : l.filters.items ≡ map all_filters_first (take l.agent-index l.agents);
  room : length l.agents ≤ vec_capacity l.filters;
}
