use Rattle.std.proofs.Common.{◌≡◌, map, take}
use Rattle.serde_json.specs.View.{view}
use Rattle.so_scene_data.specs.Canonical.{filter_data}
use Rattle.so_scene_writer.proofs.agents.filters_value.Given as goal

abbrev pub invariant-loop-filter : goal.invariant-loop-filter
invariant-loop-filter l = map view l.list.items ≡ map (filter_data l.scene) (take l.filter-index l.filters)
