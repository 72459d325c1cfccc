-- How cooperations leave, and when the run stops.
use Rattle.std.specs.Prelude.{◌≡◌, ℕ, List, true, Some}
use Rattle.so_ids.specs.declared.CoopId.{CoopId}
use Rattle.so_ids.specs.declared.Reason.{Reason}
use Rattle.so_scene.specs.declared.parts.SceneParts.{SceneParts}
use Rattle.so_scene.specs.Cooperations.{reason_of}
use Rattle.so_history.specs.declared.entry.Entry.{Entry}
use Rattle.so_history.specs.declared.entry.EntryKind.TheVariants.{Leaving, Left, Stop}
use Rattle.so_history.specs.declared.entry.StopCause.{StopCause}
use Rattle.so_history.specs.Places.{before}
use Rattle.so_history.specs.Coops.{leaving, standing}
use Rattle.so_history.specs.Steps.{may_stop}
use Rattle.so_history.specs.Facts.{StandsAt}

-- by reason: a cooperation begins to leave for the reason that it has then, so that it is present and not leaving yet; it has left only after it
-- began to leave; and the run stops for a cause that it has then
pub record ByReason (s : SceneParts) (h : List Entry) : Type 0 where
  pub reasons : (place : ℕ) (coop : CoopId) (reason : Reason) → StandsAt h place (Leaving coop reason) → reason_of s (standing (before h place)) coop ≡ Some reason
  pub begun : (place : ℕ) (coop : CoopId) → StandsAt h place (Left coop) → leaving (before h place) coop ≡ true
  pub causes : (place : ℕ) (cause : StopCause) → StandsAt h place (Stop cause) → may_stop s (before h place) cause ≡ true
