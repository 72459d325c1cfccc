-- The milestones of a history absorb each legal entry.
use Rattle.std.proofs.Common.{◌≡◌, List, ◌∷◌, false, refl}
use Rattle.so_ids.specs.declared.PartyId.{PartyId}
use Rattle.so_ids.specs.declared.Place.{Place}
use Rattle.so_code.specs.declared.effect.Answer.{Answer}
use Rattle.so_code.specs.declared.effect.Effect.{Effect}
use Rattle.so_code.specs.declared.effect.Effect.TheVariants as effect
use Rattle.so_history.specs.declared.entry.Entry.{Entry}
use Rattle.so_history.specs.declared.entry.EntryKind.{EntryKind}
use Rattle.so_history.specs.declared.entry.EntryKind.TheVariants.{Act, Abort}
use Rattle.so_history.specs.Coops.{some_left, stop_asked, stopped, aborted}
use Rattle.so_tables.specs.Tables.{milestones_of}
use Rattle.so_tables.specs.AfterMilestones.{after_entry}

module _ (h : List Entry) (by : PartyId) (going : aborted h ≡ false) where
  abbrev at : EntryKind → Entry
  at kind = record { by = by; kind = kind }

  by_act : (turn : Place) (x : Effect) (said : Answer) → milestones_of (at (Act turn x said) ∷ h) ≡ after_entry (Act turn x said) (milestones_of h)
  unfolding some_left stop_asked stopped aborted
  by_act turn effect.Stop said = rw going refl
  by_act turn other said = rw going refl

  by_kind : (kind : EntryKind) → milestones_of (at kind ∷ h) ≡ after_entry kind (milestones_of h)
  unfolding some_left stop_asked stopped aborted
  by_kind (Act turn x said) = by_act turn x said
  by_kind (Abort cause) = refl
  by_kind other = rw going refl

pub milestones-absorbed : (h : List Entry) (e : Entry) → aborted h ≡ false → milestones_of (e ∷ h) ≡ after_entry e.kind (milestones_of h)
milestones-absorbed h e going = by_kind h e.by going e.kind
