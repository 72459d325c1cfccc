use Rattle.std.proofs.Common.{◌≡◌, map, take}
use Rattle.serde_json.specs.View.{view}
use Rattle.so_scene_build.specs.Defs.{filter_of}
use Rattle.so_scene_build.proofs.defs.filters_in.Given as goal

abbrev pub invariant-loop-value : goal.invariant-loop-value
invariant-loop-value l = l.filters ≡ map (λ v. filter_of l.names (view v)) (take l.value-index l.list)
