use Rattle.std.proofs.Common.{◌≡◌, map, take}
use Rattle.serde_json.specs.View.{view}
use Rattle.so_scene_build.specs.Defs.{state_of}
use Rattle.so_scene_build.proofs.defs.states_in.Given as goal

abbrev pub invariant-loop-value : goal.invariant-loop-value
invariant-loop-value l = l.states ≡ map (λ v. state_of l.scope (view v)) (take l.value-index l.list)
