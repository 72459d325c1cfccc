use Rattle.std.proofs.Common.{◌≡◌, map, take}
use Rattle.serde_json.specs.View.{view}
use Rattle.so_scene_build.specs.Defs.{row_of}
use Rattle.so_scene_build.proofs.defs.rows_in.Given as goal

abbrev pub invariant-loop-value : goal.invariant-loop-value
invariant-loop-value l = l.rows ≡ map (λ v. row_of l.agent l.names l.scope (view v)) (take l.value-index l.list)
