-- What an entry makes of all tables, and what it asks of them.
use Rattle.std.specs.Prelude.{◌≡◌, ℕ, ◌+◌, List, length}
use Rattle.so_ids.specs.declared.Place.{Place}
use Rattle.so_ids.specs.declared.Queued.{Queued}
use Rattle.so_scene.specs.declared.parts.SceneParts.{SceneParts}
use Rattle.so_history.specs.declared.entry.EntryKind.{EntryKind}
use Rattle.so_tables.specs.declared.found.Found.{Found}
use Rattle.so_tables.specs.declared.tables.Tables.{Tables}
use Rattle.so_tables.specs.AfterEvents.{after_entry as events_after, MayAbsorb as EventsMay}
use Rattle.so_tables.specs.AfterCoops.{after_entry as coops_after, MayAbsorb as CoopsMay}
use Rattle.so_tables.specs.AfterMboxes.{after_entry as mboxes_after, MayAbsorb as MboxesMay}
use Rattle.so_tables.specs.AfterLanes.{after_entry as lanes_after, MayAbsorb as LanesMay}
use Rattle.so_tables.specs.AfterVariables.{after_entry as variables_after, MayAbsorb as VariablesMay}
use Rattle.so_tables.specs.AfterAttempts.{after_entry as attempts_after, MayAbsorb as AttemptsMay}
use Rattle.so_tables.specs.AfterMilestones.{after_entry as milestones_after}

-- each absorbs the entry, and its cost is spent
abbrev pub after_entry : SceneParts → Found → List Queued → Place → EntryKind → ℕ → Tables → Tables
after_entry s found sent place kind cost t = record {
  events = events_after found sent place kind t.events;
  coops = coops_after found kind t.coops;
  mboxes = mboxes_after found kind t.mboxes;
  lanes = lanes_after found place kind t.lanes;
  variables = variables_after s found kind t.variables;
  attempts = attempts_after kind t.attempts;
  milestones = milestones_after kind t.milestones;
  units = t.units + cost;
}

pub record MayAbsorb (s : SceneParts) (found : Found) (sent : List Queued) (place : Place) (kind : EntryKind) (t : Tables) : Type 0 where
  pub scene : t.events.scene ≡ s
  pub events : EventsMay found sent place kind t.events
  pub coops : CoopsMay found kind t.coops
  pub mboxes : MboxesMay found kind t.mboxes
  pub lanes : LanesMay found kind t.lanes
  pub size : length t.variables ≡ length s.agents
  pub variables : VariablesMay s found kind
  pub attempts : AttemptsMay kind t.attempts
