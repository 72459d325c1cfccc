use Rattle.std.proofs.Common.{◌≡◌, Result, Ok, Err, IsErrAnd}
use Rattle.so_fault.specs.declared.fault.SceneRefusal.{SceneRefusal}
use Rattle.so_fault.specs.declared.fault.SceneRefusal.TheVariants.{Fault, NoMemory}
use Rattle.so_scene_fields.specs.Reads.{Returns}
use Rattle.so_scene_build.proofs.build.Build.new.Goals as goal

-- a call that memory is wanting to returns so
lacks : {T : Type 0} (expected : T) (r : Result T SceneRefusal) → IsErrAnd r (λ e. e ≡ NoMemory) → Returns expected r
lacks expected (Ok x) h = absurd h
lacks expected (Err NoMemory) h = tt
lacks expected (Err (Fault f)) h = absurd cc

pub returns-in_err-push : goal.returns-in_err-push
returns-in_err-push c = lacks _ _ c.from_residual.ensures.1
