-- The answer to bytes, a file and words, from the answer to what they stand for.
use Rattle.std.proofs.Common.{◌≡◌, inl, inr, ℕ, ◌≤◌, List, length, Option, Some, None, Result, Ok, Err, sym, subst}
use Rattle.std.specs.Prelude.{IfSome}
use Rattle.so_io.specs.Files.{ReadsContent}
use Rattle.so_scene.specs.declared.parts.SceneParts.{SceneParts}
use Rattle.so_fault.specs.declared.fault.SceneFault.{SceneFault}
use Rattle.so_env.specs.declared.outcome.Cause.TheVariants.{Scene, Memory}
use Rattle.sorun.specs.Answers.{IsRefused, JobAnswers, SceneAnswers, FileAnswers, LoadAnswers, WordsAnswers, most_bytes, refusal_cause}
use Rattle.so_scene_fields.specs.Reads.{Reads}
use Rattle.so_fault.specs.declared.fault.SceneRefusal.{SceneRefusal}
use Rattle.so_fault.specs.declared.fault.SceneRefusal.TheVariants.{Fault, NoMemory}
use Rattle.sorun.specs.Commands.{Command, of_file, load}
use Rattle.sorun.specs.declared.commands.Job.{Job}
use Rattle.sorun.specs.declared.report.Report.{Report}

scene_fault : (job : Job) (given : Result SceneParts SceneFault) (f : SceneFault) (r : Report) (a b : Option (List ℕ)) (x y : ℕ) → given ≡ Err f → IsRefused (Scene f) r a b → SceneAnswers job given r a b x y
scene_fault job given f r a b x y is refused = subst (λ (v : Result SceneParts SceneFault). SceneAnswers job v r a b x y) (sym is) (inl refused)

scene_wanting : (job : Job) (given : Result SceneParts SceneFault) (r : Report) (a b : Option (List ℕ)) (x y : ℕ) → IsRefused Memory r a b → SceneAnswers job given r a b x y
scene_wanting job (Err f) r a b x y refused = inr refused
scene_wanting job (Ok s) r a b x y refused = inr refused

pub scene_refused : (job : Job) (given : Result SceneParts SceneFault) (why : SceneRefusal) (r : Report) (a b : Option (List ℕ)) (x y : ℕ) → Reads (Err why) given → IsRefused (refusal_cause why) r a b → SceneAnswers job given r a b x y
scene_refused job given (Fault f) r a b x y is refused = scene_fault job given f r a b x y is refused
scene_refused job given NoMemory r a b x y is refused = scene_wanting job given r a b x y refused

pub scene_done : (job : Job) (given : Result SceneParts SceneFault) (s : SceneParts) (r : Report) (a b : Option (List ℕ)) (x y : ℕ) → given ≡ Ok s → JobAnswers job s r a b x y → SceneAnswers job given r a b x y
scene_done job given s r a b x y is does = subst (λ (v : Result SceneParts SceneFault). SceneAnswers job v r a b x y) (sym is) (inl does)

pub words_file : (given : Result Command ℕ) (file : List ℕ) (job : Job) (told : List ℕ → Option (List ℕ)) (r : Report) (fx fy : ℕ) (a b : Option (List ℕ)) (x y : ℕ) → given ≡ Ok (of_file file job) → FileAnswers job (told file) r fx fy a b x y → WordsAnswers given told r fx fy a b x y
words_file given file job told r fx fy a b x y is answers = subst (λ (v : Result Command ℕ). WordsAnswers v told r fx fy a b x y) (sym is) answers

pub words_load : (given : Result Command ℕ) (count : ℕ) (told : List ℕ → Option (List ℕ)) (r : Report) (fx fy : ℕ) (a b : Option (List ℕ)) (x y : ℕ) → given ≡ Ok (load count) → LoadAnswers count r a b x y → WordsAnswers given told r fx fy a b x y
words_load given count told r fx fy a b x y is answers = subst (λ (v : Result Command ℕ). WordsAnswers v told r fx fy a b x y) (sym is) answers

pub told_read : {V : Type 0} (items : V → List ℕ) (told : Option (List ℕ)) (v : V) → ReadsContent items told most_bytes (Ok v) → IfSome told (λ all. (items v ≡ all) × (length all ≤ most_bytes))
told_read items None v reads = tt
told_read items (Some bytes) v reads = reads
