use Rattle.std.proofs.Common.{◌≡◌, ◌++◌, map, drop}
use Rattle.serde_json.specs.View.{view}
use Rattle.so_scene_data.specs.Sources.{acts_in}
use Rattle.so_scene_data.specs.ActData.{act_data}
use Rattle.so_scene_writer.proofs.acts.acts_value.Given as goal

abbrev pub invariant-loop-instr : goal.invariant-loop-instr
invariant-loop-instr l = map view l.list.items ++ map (act_data l.scene l.agent) (acts_in (drop l.instr-index l.code)) ≡ map (act_data l.scene l.agent) (acts_in l.code)
