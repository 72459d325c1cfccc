use Rattle.std.proofs.Common.{◌≡◌, None}
use Rattle.so_lists.specs.Lists.{first_below}
use Rattle.so_scene.specs.Cooperations.{leaving_at}
use Rattle.so_coop.specs.Coops.{standing}
use Rattle.so_coop.proofs.coops.Coops.leaving_next.Given as goal

abbrev pub invariant-loop-k : goal.invariant-loop-k
invariant-loop-k l = first_below (leaving_at l.self.scene (standing l.self l.stopped)) l.k ≡ None
