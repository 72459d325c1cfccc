use Rattle.std.proofs.Common.{◌≡◌, drop}
use Rattle.serde_json.specs.View.{items_view}
use Rattle.so_scene_fields.specs.Acts.{args_trouble}
use Rattle.so_scene_fields.proofs.acts.args_fault.Given as goal

abbrev pub invariant-loop-i : goal.invariant-loop-i
invariant-loop-i l = args_trouble l.forms l.rest (items_view l.list) ≡ args_trouble (drop l.i l.forms) l.rest (items_view (drop l.i l.list))
