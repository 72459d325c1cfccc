use Rattle.std.proofs.Common.{◌≡◌, ◌≤◌, [], replicate, vec_capacity}
use Rattle.so_mbox.proofs.boards.Boards.empty.Given as goal

abbrev pub invariant-loop : goal.invariant-loop
invariant-loop l = record {
  made : l.boards.items ≡ replicate l.counter [];
  room : l.count ≤ vec_capacity l.boards;
}
