use Rattle.std.proofs.Common.{◌≡◌, map, take}
use Rattle.serde_json.specs.View.{view}
use Rattle.so_scene_data.specs.Canonical.{disp_data}
use Rattle.so_scene_writer.proofs.dispatchers.list_value.Given as goal

abbrev pub invariant-loop-disp : goal.invariant-loop-disp
invariant-loop-disp l = map view l.list.items ≡ map disp_data (take l.disp-index l.disps)
