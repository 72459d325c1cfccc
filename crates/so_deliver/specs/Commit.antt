-- What a delivery makes of the queues.
use Rattle.std.specs.Prelude.{ℕ, ◌+◌, ◌<◌, List, [], ◌∷◌}
use Rattle.so_ids.specs.declared.AgentId.{AgentId}
use Rattle.so_ids.specs.declared.DemandId.{DemandId}
use Rattle.so_ids.specs.declared.Place.{Place}
use Rattle.so_ids.specs.declared.Queued.{Queued}
use Rattle.so_scene.specs.declared.parts.SceneParts.{SceneParts}
use Rattle.so_scene.specs.Parts.{priority_of}
use Rattle.so_scene.specs.Lanes.{key_of}
use Rattle.so_queue.specs.Queues.{QueueTable, list_at, IsAmong, after_push}

-- a demand is put last in its agent's queue
abbrev pub after_demand : SceneParts → AgentId → DemandId → QueueTable → QueueTable
after_demand s a d q = after_push (key_of s a) (priority_of s a) d q

-- each event in order after the other, as the demands of a place from number k on
abbrev pub committed_from : SceneParts → Place → ℕ → List Queued → QueueTable → QueueTable
committed_from s place k [] q = q
committed_from s place k (event ∷ events) q = committed_from s place (k + 1) events (after_demand s event.agent (record { place = place; k = k }) q)

abbrev pub committed : SceneParts → Place → List Queued → QueueTable → QueueTable
committed s place events q = committed_from s place 0 events q

-- each demand that waits was queued at an earlier place
abbrev pub IsPlaceAfter : List (List DemandId) → Place → Type 0
IsPlaceAfter lists place = (s : ℕ) (d : DemandId) → IsAmong (list_at lists s) d → d.place.0 < place.0
