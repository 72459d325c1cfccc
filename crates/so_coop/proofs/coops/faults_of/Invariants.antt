use Rattle.std.proofs.Common.{◌≡◌, ◌≤◌, length, vec_capacity}
use Rattle.so_lists.specs.Lists.{each_below}
use Rattle.so_coop.specs.Counts.{fault_of}
use Rattle.so_coop.proofs.coops.faults_of.Given as goal

abbrev pub invariant-loop-k : goal.invariant-loop-k
invariant-loop-k l = record {
  judged : l.faults.items ≡ each_below (fault_of l.scene) l.k;
  room : length l.scene.agents ≤ vec_capacity l.faults;
}
