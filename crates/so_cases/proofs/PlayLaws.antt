-- A row of picks keeps the scene.
use Rattle.std.proofs.Common.{◌≡◌, List, [], ◌∷◌, Result, Ok, Err, refl, sym, ◌∙◌, ap}
use Rattle.so_scene.specs.declared.parts.SceneParts.{SceneParts}
use Rattle.so_history.specs.declared.entry.Entry.{Entry}
use Rattle.so_history.specs.declared.entry.Pick.{Pick}
use Rattle.so_history.specs.Steps.{Legal}
use Rattle.so_history.specs.Chain.{step_of}
use Rattle.so_ledger.specs.Shapes.{Core}
use Rattle.so_ledger.specs.Gates.{gated, core_after}
use Rattle.so_ledger.specs.declared.gate.Barred.{Barred}
use Rattle.so_ledger.specs.declared.gate.Barred.TheVariants.{Nothing, Full, Over}
use Rattle.so_kernel.specs.Held.{played}

same_scene : (k : Core) (g : Result Entry Barred) → (core_after k g).scene ≡ k.scene
same_scene k (Ok e) = refl
same_scene k (Err Nothing) = refl
same_scene k (Err Full) = refl
same_scene k (Err Over) = refl

played_scene : (k : Core) (ps : List Pick) → (played k ps).scene ≡ k.scene
played_scene k [] = refl
played_scene k (p ∷ ps) =
    let g = gated k (step_of k.scene k.history p) in
    played_scene (core_after k g) ps ∙ same_scene k g

-- the history that stands after a row of picks is legal for the scene that stood before it
pub legal_of : (k l : Core) (ps : List Pick) (s : SceneParts) (h : List Entry) → k.scene ≡ s → l ≡ played k ps → h ≡ l.history → Legal l.scene l.history → Legal s h
legal_of k l ps s h scene after entries legal =
    rw (entries, ← scene, ← played_scene k ps, ← ap (λ (x : Core). x.scene) after) legal
