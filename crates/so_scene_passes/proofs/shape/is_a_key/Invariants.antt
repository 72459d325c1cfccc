use Rattle.std.proofs.Common.{◌≡◌, drop}
use Rattle.so_scene_passes.specs.Shape.{is_known}
use Rattle.so_scene_passes.proofs.shape.is_a_key.Given as goal

abbrev pub invariant-loop-rule : goal.invariant-loop-rule
invariant-loop-rule l = is_known l.rules l.name ≡ is_known (drop l.rule-index l.rules) l.name
