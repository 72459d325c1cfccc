-- The events of a delivery are put into the queues one after the other.
use Rattle.std.proofs.Common.{◌≡◌, ℕ, zero, suc, ◌+◌, ◌<◌, ◌≤◌, List, [], ◌∷◌, ◌++◌, length, drop, get_or, Some, None, true, arith, refl, sym, ◌∙◌, ap, subst, inl, inr}
use Rattle.std.specs.Prelude.{slice_set, slice_get}
use Rattle.std.specs.List.{All}
use Rattle.std.proofs.lemmas.Bool.{cases_lt}
use Rattle.std.proofs.lemmas.List.{set_past, drop_all}
use Rattle.so_ids.specs.declared.AgentId.{AgentId}
use Rattle.so_ids.specs.declared.DemandId.{DemandId}
use Rattle.so_ids.specs.declared.Place.{Place}
use Rattle.so_ids.specs.declared.Queued.{Queued}
use Rattle.so_ids.specs.Ids.{is_earlier}
use Rattle.so_scene.specs.declared.parts.SceneParts.{SceneParts}
use Rattle.so_queue.specs.Queues.{QueueTable, list_at, IsAmong, IsAfterAll}
use Rattle.so_queue.proofs.OrderLaws.{earlier_trans, earlier_there, earlier_at_once}
use Rattle.so_queue.proofs.QueueLaws.{push_old}
use Rattle.so_scene.specs.Parts.{priority_of}
use Rattle.so_deliver.specs.Commit.{after_demand, committed_from, IsPlaceAfter}

-- what comes after all comes after all once another has come in between
pub after_pushed : (lists : List (List DemandId)) (t : ℕ) (d e : DemandId) → IsAfterAll lists d → is_earlier d e ≡ true → IsAfterAll (slice_set lists t (list_at lists t ++ d ∷ [])) e
after_pushed lists t d e last later s x among =
    elim (cases_lt t (length lists)) [
      | inl within ↦
          elim (push_old lists t s d x within among) [
            | inl old ↦ earlier_trans x d e (last s x old) later
            | inr new ↦ (let P : DemandId → Type 0 = λ y. is_earlier y e ≡ true in subst P (sym new.1) later)
          ]
      | inr past ↦
          (let P : List (List DemandId) → Type 0 = λ ls. IsAmong (list_at ls s) x in
          earlier_trans x d e (last s x (subst P (set_past lists t (list_at lists t ++ d ∷ []) past) among)) later)
    ]

-- a later place comes after all
pub after_places : (lists : List (List DemandId)) (place : Place) (k : ℕ) → IsPlaceAfter lists place → IsAfterAll lists (record { place = place; k = k })
after_places lists place k later s x among = earlier_at_once x (record { place = place; k = k }) (later s x among)

-- the queues while the events are put into them: what is left runs as the whole did
pub record IsCommitting (s : SceneParts) (place : Place) (events : List Queued) (whole q : QueueTable) (k : ℕ) : Type 0 where
  pub runs : committed_from s place k (drop k events) q ≡ whole
  pub keys : length q.safe ≡ length whole.safe
  pub room : length events ≤ q.room + k
  pub last : IsAfterAll q.lists (record { place = place; k = k })

pub committed-safe : (s : SceneParts) (place : Place) (k : ℕ) (events : List Queued) (q : QueueTable) → length (committed_from s place k events q).safe ≡ length q.safe
committed-safe s place k [] q = refl
committed-safe s place k (event ∷ events) q = committed-safe s place (k + 1) events (after_demand s event.agent (record { place = place; k = k }) q)

pub commit_begins : (s : SceneParts) (place : Place) (events : List Queued) (q : QueueTable) → length events ≤ q.room → IsPlaceAfter q.lists place → IsCommitting s place events (committed_from s place 0 events q) q 0
commit_begins s place events q room later = record {
  runs = refl;
  keys = sym (committed-safe s place 0 events q);
  room = omega arith;
  last = after_places q.lists place 0 later;
}

next_events : (events : List Queued) (k : ℕ) (event : Queued) → slice_get events k ≡ Some event → drop k events ≡ event ∷ drop (k + 1) events
next_events [] k event here = absurd cc
next_events (x ∷ events) zero event here = let same : x ≡ event = cc in ap (λ y. y ∷ events) same
next_events (x ∷ events) (suc k) event here = let n : suc (k + 1) ≡ suc k + 1 = omega arith in next_events events k event here ∙ ap (λ m. event ∷ drop m (x ∷ events)) n

within_events : (events : List Queued) (k : ℕ) (event : Queued) → slice_get events k ≡ Some event → k < length events
within_events [] k event here = absurd cc
within_events (x ∷ events) zero event here = omega arith
within_events (x ∷ events) (suc k) event here = omega (arith, within_events events k event here)

pub commit_room : {s : SceneParts} {place : Place} {events : List Queued} {whole q : QueueTable} {k : ℕ} (event : Queued) → slice_get events k ≡ Some event → IsCommitting s place events whole q k → 0 < q.room
commit_room {s} {place} {events} {whole} {q} {k} event here c = omega (arith, within_events events k event here, c.room)

pub commit_goes : {s : SceneParts} {place : Place} {events : List Queued} {whole q : QueueTable} {k : ℕ} (event : Queued) → slice_get events k ≡ Some event → IsCommitting s place events whole q k →
    IsCommitting s place events whole (after_demand s event.agent (record { place = place; k = k }) q) (k + 1)
commit_goes {s} {place} {events} {whole} {q} {k} event here c = record {
  runs = sym (ap (λ xs. committed_from s place k xs q) (next_events events k event here)) ∙ c.runs;
  keys = c.keys;
  room = (let room = commit_room event here c in omega (arith, c.room));
  last = after_pushed q.lists _ (record { place = place; k = k }) (record { place = place; k = k + 1 }) c.last (earlier_there (record { place = place; k = k }) (record { place = place; k = k + 1 }) refl (omega arith));
}

pub commit_ends : {s : SceneParts} {place : Place} {events : List Queued} {whole q : QueueTable} {k : ℕ} → length events ≤ k → IsCommitting s place events whole q k → q ≡ whole
commit_ends {s} {place} {events} {whole} {q} {k} past c = sym (ap (λ xs. committed_from s place k xs q) (drop_all k events past)) ∙ c.runs

pub not_past : (events : List Queued) (k : ℕ) → k < length events → slice_get events k ≡ None → ⊥
not_past [] k l none = absurd (omega arith)
not_past (x ∷ events) zero l none = cc
not_past (x ∷ events) (suc k) l none = not_past events k (omega (arith, l)) none

-- what holds of each event holds of the one at a number
event_at : (events : List Queued) (k : ℕ) (event : Queued) → slice_get events k ≡ Some event → get_or events k event ≡ event
event_at [] k event here = absurd cc
event_at (x ∷ events) zero event here = let same : x ≡ event = cc in same
event_at (x ∷ events) (suc k) event here = event_at events k event here

pub event_known : (s : SceneParts) (events : List Queued) (k : ℕ) (event : Queued) → All (λ (q : Queued). q.agent.0 < length s.agents) events → slice_get events k ≡ Some event → event.agent.0 < length s.agents
event_known s events k event all here = subst (λ (q : Queued). q.agent.0 < length s.agents) (event_at events k event here) (all k event (within_events events k event here))

pub low : (s : SceneParts) (a : AgentId) → (priority_of s a).level ≤ 7
low s a = (priority_of s a).in_range
