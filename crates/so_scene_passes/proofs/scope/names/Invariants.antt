use Rattle.std.proofs.Common.{◌≡◌, map, take}
use Rattle.serde_json.specs.View.{view}
use Rattle.so_scene_fields.specs.Values.{name_in}
use Rattle.so_scene_passes.proofs.scope.names.Given as goal

abbrev pub invariant-loop-value : goal.invariant-loop-value
invariant-loop-value l = l.names ≡ map (λ v. name_in (view v)) (take l.value-index l.list)
