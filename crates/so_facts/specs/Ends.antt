-- A run that is over has no next step, and any other has one.
use Rattle.std.specs.Prelude.{◌≡◌, ◌↔◌, ℕ, ◌<◌, List, ◌∷◌, length, true, false, Some, None}
use Rattle.so_scene.specs.declared.parts.SceneParts.{SceneParts}
use Rattle.so_history.specs.declared.entry.Entry.{Entry}
use Rattle.so_history.specs.Places.{before}
use Rattle.so_history.specs.Steps.{is_over, Legal}
use Rattle.so_history.specs.declared.entry.Pick.{Pick}
use Rattle.so_history.specs.Chain.{IsPickInRange, step_of, first}

-- some pick has a step
pub record GoesOn (s : SceneParts) (h : List Entry) : Type 0 where
  pub pick : Pick
  pub in_range : IsPickInRange s pick
  pub entry : Entry
  pub steps : step_of s h pick ≡ Some entry

-- it went on: before none of its entries was the run over
abbrev pub WentOn : SceneParts → List Entry → Type 0
WentOn s h = (place : ℕ) → place < length h → is_over s (before h place) ≡ false

-- a run comes to its end exactly where it is over: there nothing may follow; no step is next exactly there, and anywhere else some
-- pick has a step; and what is next, or the step of a pick, may follow
pub record EndsWhereOver (s : SceneParts) (h : List Entry) : Type 0 where
  pub nothing_follows : is_over s h ≡ true → (e : Entry) → Legal s (e ∷ h) → ⊥
  pub none_next : (first s h ≡ None) ↔ (is_over s h ≡ true)
  pub goes_on : is_over s h ≡ false → GoesOn s h
  pub next_follows : (e : Entry) → first s h ≡ Some e → Legal s (e ∷ h)
  pub pick_follows : (pick : Pick) (e : Entry) → IsPickInRange s pick → step_of s h pick ≡ Some e → Legal s (e ∷ h)
