use Rattle.std.proofs.Common.{◌≡◌, drop}
use Rattle.serde_json.specs.View.{items_view}
use Rattle.so_scene_passes.specs.Shape.{acts_from}
use Rattle.so_scene_passes.specs.Known.{act_unknown}
use Rattle.so_scene_passes.proofs.known.Known.acts.Given as goal

abbrev pub invariant-loop-i : goal.invariant-loop-i
invariant-loop-i l = acts_from (λ rest d. act_unknown l.self d) l.place 0 (items_view l.list) ≡ acts_from (λ rest d. act_unknown l.self d) l.place l.i (items_view (drop l.i l.list))
