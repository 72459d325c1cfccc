-- Each turn begins for a demand.
use Rattle.std.specs.Prelude.{◌≡◌, ℕ, List, Option, Some, None}
use Rattle.so_ids.specs.declared.AgentId.{AgentId}
use Rattle.so_ids.specs.declared.DemandId.{DemandId}
use Rattle.so_ids.specs.declared.LaneId.{LaneId}
use Rattle.so_ids.specs.declared.Opening.{Opening}
use Rattle.so_scene.specs.declared.parts.SceneParts.{SceneParts}
use Rattle.so_history.specs.declared.entry.Entry.{Entry}
use Rattle.so_history.specs.declared.entry.EntryKind.TheVariants.{Begin}
use Rattle.so_history.specs.Places.{before}
use Rattle.so_history.specs.Order.{skipped}
use Rattle.so_history.specs.Facts.{StandsAt, BeginsWith}

-- a turn begins for a demand: it names one that waits after this history, it is that one's agent's, and it begins with what is
-- chosen for that one, which is nothing to be skipped
pub record BeginsFor (s : SceneParts) (h : List Entry) (id : Option DemandId) (opening : Opening) (agent : AgentId) : Type 0 where
  pub demand : DemandId
  pub names_it : id ≡ Some demand
  pub begins : BeginsWith s h demand opening agent
  pub not_skipped : skipped opening ≡ None

-- by demand: each turn begins for one
abbrev pub ByDemand : SceneParts → List Entry → Type 0
ByDemand s h =
    (place : ℕ) (lane : LaneId) (id : Option DemandId) (opening : Opening) (agent : AgentId) → StandsAt h place (Begin lane id opening agent) →
    BeginsFor s (before h place) id opening agent
