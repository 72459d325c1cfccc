use Rattle.std.proofs.Common.{◌≡◌}
use Rattle.serde_json.specs.View.{members_view}
use Rattle.so_scene_passes.specs.Shape.{has_unknown}
use Rattle.so_scene_passes.proofs.shape.has_unknown_key.Given as goal

abbrev pub invariant-loop-name : goal.invariant-loop-name
invariant-loop-name l = has_unknown l.rules (members_view l.members.entries) ≡ has_unknown l.rules (members_view l.name-iterator)
