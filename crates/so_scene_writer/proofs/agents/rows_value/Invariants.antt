use Rattle.std.proofs.Common.{◌≡◌, ◌++◌, map, drop}
use Rattle.serde_json.specs.View.{view}
use Rattle.so_scene_data.specs.Canonical.{row_data}
use Rattle.so_scene_data.specs.Sources.{rows_in}
use Rattle.so_scene_writer.proofs.agents.rows_value.Given as goal

abbrev pub invariant-loop-k : goal.invariant-loop-k
invariant-loop-k l = map view l.list.items ++ map (row_data l.scene l.agent) (rows_in (drop l.k l.ids) (drop l.k l.rows) l.left) ≡ map (row_data l.scene l.agent) (rows_in l.ids l.rows l.code)
