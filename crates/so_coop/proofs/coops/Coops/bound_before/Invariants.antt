use Rattle.std.proofs.Common.{◌≡◌, ◌≤◌, count_by}
use Rattle.so_lists.specs.Lists.{each_below}
use Rattle.so_scene.specs.Lanes.{is_bound}
use Rattle.so_coop.specs.Coops.{agent_at}
use Rattle.so_coop.proofs.coops.Coops.bound_before.Given as goal

abbrev pub invariant-loop-k : goal.invariant-loop-k
invariant-loop-k l = record {
  counted : l.bound ≡ count_by (is_bound l.self.scene l.disp) (each_below (agent_at l.self.scene l.coop) l.k);
  few : l.bound ≤ l.k;
}
