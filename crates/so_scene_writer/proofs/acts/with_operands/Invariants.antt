use Rattle.std.proofs.Common.{◌≡◌, ◌++◌, map, take}
use Rattle.serde_json.specs.View.{view}
use Rattle.so_scene_data.specs.ActData.{operand_data}
use Rattle.so_scene_writer.proofs.acts.with_operands.Given as goal

abbrev pub invariant-loop-operand : goal.invariant-loop-operand
invariant-loop-operand l = map view l.list.items ≡ map view l.fn.list.items ++ map operand_data (take l.operand-index l.operands)
