use Rattle.std.proofs.Common.{◌≡◌, None}
use Rattle.so_lists.specs.Lists.{first_below}
use Rattle.so_scene.specs.Definition.{filter_fault}
use Rattle.so_scene.proofs.parts.SceneParts.first_filter_fault.Given as goal

abbrev pub invariant-loop-k : goal.invariant-loop-k
invariant-loop-k l = first_below (filter_fault l.fn.self l.fn.agent) l.k ≡ None
