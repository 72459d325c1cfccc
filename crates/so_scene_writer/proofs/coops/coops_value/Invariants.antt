use Rattle.std.proofs.Common.{◌≡◌, map, take}
use Rattle.serde_json.specs.View.{view}
use Rattle.so_scene_data.specs.Canonical.{coop_data}
use Rattle.so_scene_writer.proofs.coops.coops_value.Given as goal

abbrev pub invariant-loop-coop : goal.invariant-loop-coop
invariant-loop-coop l = map view l.list.items ≡ map (coop_data l.scene) (take l.coop-index l.coops)
