use Rattle.std.proofs.Common.{◌≡◌, map, take}
use Rattle.serde_json.specs.View.{view}
use Rattle.so_scene_fields.specs.Values.{id_in}
use Rattle.so_scene_passes.proofs.scope.ids.Given as goal

abbrev pub invariant-loop-value : goal.invariant-loop-value
invariant-loop-value l = l.ids ≡ map (λ v. id_in (view v)) (take l.value-index l.list)
