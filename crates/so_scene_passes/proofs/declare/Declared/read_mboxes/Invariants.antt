use Rattle.std.proofs.Common.{◌≡◌, drop}
use Rattle.serde_json.specs.View.{items_view}
use Rattle.so_scene_passes.specs.Twice.{with_mboxes}
use Rattle.so_scene_passes.proofs.declare.Declared.read_mboxes.Given as goal

abbrev pub invariant-loop-value : goal.invariant-loop-value
invariant-loop-value l = with_mboxes (items_view l.list) l.initial.self ≡ with_mboxes (items_view (drop l.value-index l.list)) l.self
