-- The tables of a history absorb each legal entry.
use Rattle.std.proofs.Common.{◌≡◌, ℕ, ◌+◌, ◌-◌, ◌<◌, ◌≤◌, ◌^◌, List, ◌∷◌, length, false, refl}
use Rattle.std.proofs.lemmas.Bool.{or_parts}
use Rattle.so_ids.specs.declared.Queued.{Queued}
use Rattle.so_lists.proofs.EachBelow.{length-each_below}
use Rattle.so_scene.specs.declared.parts.SceneParts.{SceneParts}
use Rattle.so_scene.specs.Checked.{IsScene}
use Rattle.so_history.specs.declared.entry.Entry.{Entry}
use Rattle.so_history.specs.Coops.{aborted}
use Rattle.so_history.specs.Demands.{queued_by, demands}
use Rattle.so_history.specs.Steps.{finished, Legal}
use Rattle.so_history.specs.Turns.{vars}
use Rattle.so_history.specs.Units.{units, cost}
use Rattle.so_tables.specs.declared.found.Found.{Found}
use Rattle.so_tables.specs.Found.{IsFound}
use Rattle.so_tables.specs.AfterEvents.{IsSent}
use Rattle.so_tables.specs.Tables.{tables_of}
use Rattle.so_tables.specs.AfterEntry.{after_entry, MayAbsorb}
use Rattle.so_tables.proofs.EventAbsorb.{events-absorbed, events-may}
use Rattle.so_tables.proofs.CoopAbsorb.{coops-absorbed, coops-may}
use Rattle.so_tables.proofs.MboxAbsorb.{mboxes-absorbed, mboxes-may}
use Rattle.so_tables.proofs.LaneAbsorb.{lanes-absorbed, lanes-may}
use Rattle.so_tables.proofs.VarAbsorb.{variables-absorbed, variables-may}
use Rattle.so_tables.proofs.AttemptAbsorb.{attempts-absorbed, attempts-may}
use Rattle.so_tables.proofs.MilestoneAbsorb.{milestones-absorbed}

module _ (s : SceneParts) (room : ℕ) (h : List Entry) (e : Entry) (found : Found) (sent : List Queued) (scene : IsScene s) (legal : Legal s (e ∷ h)) (its : IsFound s h e.kind found) (is_sent : IsSent s h e.kind sent) where
  going : aborted h ≡ false
  going = (or_parts (finished s h) (aborted h) legal.1.goes_on).1

  pub tables-absorbed : tables_of s room (e ∷ h) ≡ after_entry s found sent (record { 0 = length h }) e.kind (cost s h e) (tables_of s room h)
  unfolding units
  tables-absorbed =
      λ i. record {
        events = events-absorbed s room h e found sent scene legal its is_sent i;
        coops = coops-absorbed s h e found scene legal its i;
        mboxes = mboxes-absorbed s h e found scene legal its i;
        lanes = lanes-absorbed s h e found legal its i;
        variables = variables-absorbed s h e found scene legal its i;
        attempts = attempts-absorbed s h e legal i;
        milestones = milestones-absorbed h e going i;
        units = units s h + cost s h e;
      }

  pub tables-may : length (demands s h) + length (queued_by s h e.kind) ≤ room → length h < 2 ^ 32 - 1 → MayAbsorb s found sent (record { 0 = length h }) e.kind (tables_of s room h)
  tables-may few short = record { scene = refl; events = events-may s room h e found sent scene few short legal its is_sent; coops = coops-may s h e found scene legal its; mboxes = mboxes-may s h e found scene legal its; lanes = lanes-may s h e found legal its; size = length-each_below (λ a. vars s h (record { 0 = a })) (length s.agents); variables = variables-may s h e found scene legal its; attempts = attempts-may s h e legal }
