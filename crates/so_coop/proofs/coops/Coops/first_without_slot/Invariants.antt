use Rattle.std.proofs.Common.{◌≡◌, false, None}
use Rattle.so_lists.specs.Lists.{first_below}
use Rattle.so_scene.specs.Parts.{agents_of}
use Rattle.so_scene.specs.Cooperations.{refused_slot}
use Rattle.so_coop.specs.Coops.{standing}
use Rattle.so_coop.proofs.coops.Coops.first_without_slot.Given as goal

abbrev pub invariant-loop-k : goal.invariant-loop-k
invariant-loop-k l = first_below (refused_slot l.self.scene (standing l.self false) (agents_of l.self.scene l.coop)) l.k ≡ None
