use Rattle.std.proofs.Common.{◌≡◌, map, take}
use Rattle.serde_json.specs.View.{view}
use Rattle.so_scene_data.specs.Canonical.{number_data}
use Rattle.so_scene_writer.proofs.agents.numbers_value.Given as goal

abbrev pub invariant-loop-k : goal.invariant-loop-k
invariant-loop-k l = map view l.list.items ≡ map number_data (take l.k l.numbers)
