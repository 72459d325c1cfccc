use Rattle.std.proofs.Common.{◌≡◌, None}
use Rattle.so_lists.specs.Lists.{first_below}
use Rattle.so_scene.specs.Definition.{row_fault}
use Rattle.so_scene.proofs.parts.SceneParts.first_row_fault.Given as goal

abbrev pub invariant-loop-k : goal.invariant-loop-k
invariant-loop-k l = first_below (row_fault l.fn.self l.fn.agent) l.k ≡ None
