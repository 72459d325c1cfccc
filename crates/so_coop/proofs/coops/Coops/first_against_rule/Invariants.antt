use Rattle.std.proofs.Common.{◌≡◌, None}
use Rattle.so_lists.specs.Lists.{first_below}
use Rattle.so_scene.specs.Parts.{agents_of}
use Rattle.so_scene.specs.Cooperations.{refused_rule}
use Rattle.so_coop.proofs.coops.Coops.first_against_rule.Given as goal

abbrev pub invariant-loop-k : goal.invariant-loop-k
invariant-loop-k l = first_below (refused_rule l.self.scene (agents_of l.self.scene l.coop)) l.k ≡ None
