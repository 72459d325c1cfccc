-- What the ledger keeps goes on after one more entry.
use Rattle.std.proofs.Common.{◌≡◌, ℕ, ◌+◌, ◌<◌, ◌≤◌, ◌^◌, List, ◌∷◌, length, Bool, arith, sym, ◌∙◌, ap}
use Rattle.std.proofs.lemmas.Bool.{leb-true}
use Rattle.so_ids.specs.declared.Queued.{Queued}
use Rattle.so_scene.specs.declared.parts.SceneParts.{SceneParts}
use Rattle.so_history.specs.declared.entry.Entry.{Entry}
use Rattle.so_history.specs.Units.{units, cost}
use Rattle.so_tables.specs.declared.found.Found.{Found}
use Rattle.so_tables.specs.declared.tables.Tables.{Tables}
use Rattle.so_tables.specs.Found.{IsFound}
use Rattle.so_tables.specs.AfterEvents.{IsSent}
use Rattle.so_tables.specs.AfterEntry.{after_entry, MayAbsorb}
use Rattle.so_tables.proofs.Joined.{tables-absorbed, tables-may}
use Rattle.so_ledger.specs.Kept.{IsKept, MayAdd}
use Rattle.so_ledger.proofs.KeptLaws.{demands-units, has_place, kept_after}

module _ {s : SceneParts} {limit : ℕ} {h : List Entry} {t : Tables} {full : Bool} (e : Entry) (found : Found) (sent : List Queued) (kept : IsKept s limit h t full) (ready : MayAdd (record { scene = s; limit = limit; history = h; full = full }) e) (its : IsFound s h e.kind found) (is_sent : IsSent s h e.kind sent) where
  within : units s h + cost s h e ≤ limit
  within = leb-true _ _ ready.fits

  pub has_room : t.units + cost s h e < 2 ^ 32
  has_room = rw kept.tables (omega (arith, within, kept.few))

  pub may_absorb : MayAbsorb s found sent (record { 0 = length h }) e.kind t
  may_absorb =
      let short : length h < limit = has_place e kept ready in
      rw kept.tables (tables-may s limit h e found sent kept.scene (kept.legal, ready.step) its is_sent (omega (arith, within, demands-units s h)) (omega (arith, short, kept.few)))

  pub kept_on : (u : Tables) → u ≡ after_entry s found sent (record { 0 = length h }) e.kind (cost s h e) t → IsKept s limit (e ∷ h) u full
  kept_on u is = kept_after e u kept ready (is ∙ (ap (after_entry s found sent (record { 0 = length h }) e.kind (cost s h e)) kept.tables ∙ sym (tables-absorbed s limit h e found sent kept.scene (kept.legal, ready.step) its is_sent)))
