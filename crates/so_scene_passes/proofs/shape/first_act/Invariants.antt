use Rattle.std.proofs.Common.{◌≡◌, drop}
use Rattle.serde_json.specs.View.{items_view}
use Rattle.so_scene_passes.specs.Shape.{acts_from}
use Rattle.so_scene_fields.specs.Acts.{act_trouble}
use Rattle.so_scene_passes.proofs.shape.first_act.Given as goal

abbrev pub invariant-loop-i : goal.invariant-loop-i
invariant-loop-i l = acts_from (act_trouble l.allowed) l.place 0 (items_view l.list) ≡ acts_from (act_trouble l.allowed) l.place l.i (items_view (drop l.i l.list))
