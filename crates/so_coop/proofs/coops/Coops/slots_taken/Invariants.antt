use Rattle.std.proofs.Common.{◌≡◌, ◌≤◌, false, count_by}
use Rattle.so_lists.specs.Lists.{each_below}
use Rattle.so_scene.specs.Lanes.{agent_number}
use Rattle.so_scene.specs.Cooperations.{has_slot}
use Rattle.so_coop.specs.Coops.{standing}
use Rattle.so_coop.proofs.coops.Coops.slots_taken.Given as goal

abbrev pub invariant-loop-k : goal.invariant-loop-k
invariant-loop-k l = record {
  counted : l.taken ≡ count_by (has_slot l.self.scene (standing l.self false) l.disp) (each_below agent_number l.k);
  few : l.taken ≤ l.k;
}
