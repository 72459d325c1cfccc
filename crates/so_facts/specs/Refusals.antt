-- A cooperation is registered where the rules of admission allow it, and otherwise refused for their cause, which changes nothing.
use Rattle.std.specs.Prelude.{◌≡◌, ℕ, ◌==◌, List, [], ◌∷◌, length, Some, None, if◌then◌else◌}
use Rattle.so_ids.specs.declared.AgentId.{AgentId}
use Rattle.so_ids.specs.declared.CoopId.{CoopId}
use Rattle.so_ids.specs.declared.Refusal.{Refusal}
use Rattle.so_scene.specs.declared.parts.SceneParts.{SceneParts}
use Rattle.so_scene.specs.Cooperations.{admission}
use Rattle.so_history.specs.declared.entry.Entry.{Entry}
use Rattle.so_history.specs.declared.entry.EntryKind.TheVariants.{Register, Refuse}
use Rattle.so_history.specs.Places.{before}
use Rattle.so_history.specs.Coops.{roster, present, next_coop, standing}
use Rattle.so_history.specs.Delivery.{registered, active_rows, active_filters}
use Rattle.so_history.specs.Demands.{waiting}
use Rattle.so_history.specs.Turns.{running}
use Rattle.so_history.specs.Facts.{StandsAt, RegistersAt, RefusesAt}

-- the entries up to a place, that at the place with them
abbrev pub up_to : List Entry → ℕ → List Entry
up_to [] place = []
up_to (e ∷ h) place = if length h == place then e ∷ h else up_to h place

-- the entry at a place leaves all as it was: which cooperations are present and which agents registered, which rows and filters of
-- each agent are active, which demands wait and which turns run
pub record LeavesAll (s : SceneParts) (h : List Entry) (place : ℕ) : Type 0 where
  pub coops : roster (up_to h place) ≡ roster (before h place)
  pub there : (c : CoopId) → present (up_to h place) c ≡ present (before h place) c
  pub agents : registered s (up_to h place) ≡ registered s (before h place)
  pub rows : (a : AgentId) → active_rows s (up_to h place) a ≡ active_rows s (before h place) a
  pub filters : (a : AgentId) → active_filters s (up_to h place) a ≡ active_filters s (before h place) a
  pub demands : waiting s (up_to h place) ≡ waiting s (before h place)
  pub turns : running (up_to h place) ≡ running (before h place)

-- main tries to register a cooperation at a place, which is refused or not
pub data MainTries (h : List Entry) (place : ℕ) (coop : CoopId) : Type 0 where
  registers : StandsAt h place (Register coop) → MainTries h place coop
  refuses : (cause : Refusal) → StandsAt h place (Refuse coop cause) → MainTries h place coop

-- by admission: main tries its cooperations in turn; each registration is admitted; and each refusal has the cause that admission
-- gives, and leaves all as it was. The last says what the definitions come to: it holds of every list of entries, and refuses none
pub record ByAdmission (s : SceneParts) (h : List Entry) : Type 0 where
  pub in_turn : (place : ℕ) (coop : CoopId) → MainTries h place coop → next_coop s (before h place) ≡ Some coop
  pub admitted : (place : ℕ) (coop : CoopId) → RegistersAt h place coop → admission s (standing (before h place)) coop ≡ None
  pub refused : (place : ℕ) (coop : CoopId) (cause : Refusal) → RefusesAt h place coop cause → admission s (standing (before h place)) coop ≡ Some cause
  pub unchanged : (place : ℕ) (coop : CoopId) (cause : Refusal) → RefusesAt h place coop cause → LeavesAll s h place
