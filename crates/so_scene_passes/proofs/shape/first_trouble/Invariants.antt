use Rattle.std.proofs.Common.{◌≡◌, drop}
use Rattle.serde_json.specs.View.{items_view}
use Rattle.so_scene_passes.specs.Shape.{first_of, item_trouble}
use Rattle.so_scene_passes.proofs.shape.first_trouble.Given as goal

abbrev pub invariant-loop-value : goal.invariant-loop-value
invariant-loop-value l = first_of (item_trouble l.kind) (items_view l.list) ≡ first_of (item_trouble l.kind) (items_view (drop l.value-index l.list))
