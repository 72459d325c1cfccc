-- Which demands an entry queues, which were taken, and which wait.
use Rattle.std.specs.Prelude.{ℕ, ◌+◌, pos, replicate, List, [], ◌∷◌, ◌++◌, length, map, Bool, false, not, ◌||◌, Option, Some, None, if◌then◌else◌}
use Rattle.std.specs.List.{filter, find}
use Rattle.so_ids.specs.declared.AgentId.{AgentId}
use Rattle.so_ids.specs.declared.DemandId.{DemandId}
use Rattle.so_ids.specs.declared.MsgId.{MsgId}
use Rattle.so_ids.specs.declared.Payload.{Payload}
use Rattle.so_ids.specs.declared.Queued.{Queued}
use Rattle.so_ids.specs.declared.Target.{Target}
use Rattle.so_ids.specs.declared.Target.TheVariants.{Mbox, Chain}
use Rattle.so_ids.specs.Ids.{same_demand}
use Rattle.so_code.specs.declared.effect.Effect.{Effect}
use Rattle.so_code.specs.declared.effect.Effect.TheVariants as effect
use Rattle.so_code.specs.declared.effect.Answer.{Answer}
use Rattle.so_code.specs.declared.effect.Answer.TheVariants as answer
use Rattle.so_scene.specs.declared.parts.SceneParts.{SceneParts}
use Rattle.so_scene.specs.Parts.{agents_of}
use Rattle.so_scene.specs.Delivery.{events}
use Rattle.so_history.specs.declared.entry.Entry.{Entry}
use Rattle.so_history.specs.declared.entry.EntryKind.{EntryKind}
use Rattle.so_history.specs.declared.entry.EntryKind.TheVariants.{Register, Begin, Skip, Act, Leaving}
use Rattle.so_history.specs.declared.entry.Demand.{Demand}
use Rattle.so_history.specs.declared.entry.EventSource.{EventSource}
use Rattle.so_history.specs.Delivery.{delivered}
use Rattle.so_history.specs.declared.entry.DemandKind.{DemandKind}
use Rattle.so_history.specs.declared.entry.DemandKind.TheVariants.{Start, Finish, Event}

-- what is asked of an agent
pub record Asked : Type 0 where
  pub agent : AgentId
  pub kind : DemandKind

-- the same of each of these agents
abbrev pub ask_each : DemandKind → List AgentId → List Asked
ask_each kind agents = map (λ a. record { agent = a; kind = kind }) agents

-- an event asks its agent to handle it
abbrev pub ask : Queued → Asked
ask event = record { agent = event.agent; kind = Event event.mbox event.msg event.payload }

-- what a turn's effect asks: a message that is sent asks what its delivery queues, and a registration that each agent starts
abbrev pub asked_by_target : SceneParts → List Entry → Target → MsgId → Payload → List Asked
asked_by_target s h (Mbox mbox) msg payload = map ask (events (delivered s h mbox msg payload))
asked_by_target s h (Chain chain) msg payload = []

abbrev pub asked_by_effect : SceneParts → List Entry → Effect → Answer → List Asked
asked_by_effect s h (effect.Send target msg payload) answer = asked_by_target s h target msg payload
asked_by_effect s h (effect.Register coop) answer.Okay = ask_each Start (agents_of s coop)
asked_by_effect s h effect answer = []

-- what an entry after this history asks: each agent of a cooperation is to start where it is registered, and to finish where it leaves
abbrev pub asked_by : SceneParts → List Entry → EntryKind → List Asked
asked_by s h (Register coop) = ask_each Start (agents_of s coop)
asked_by s h (Leaving coop reason) = ask_each Finish (agents_of s coop)
asked_by s h (Act turn effect answer) = asked_by_effect s h effect answer
asked_by s h other = []

-- the k-th demand of an entry at a place
abbrev pub demand_of : ℕ → ℕ → Asked → Demand
demand_of place k a = record { id = record { place = record { 0 = place }; k = k }; agent = a.agent; kind = a.kind }

-- the demands of what the entry at a place asks, from number k on
abbrev pub demands_from : ℕ → ℕ → List Asked → List Demand
demands_from place k [] = []
demands_from place k (a ∷ rest) = demand_of place k a ∷ demands_from place (k + 1) rest

-- the demands that an entry queues after this history
abbrev pub queued_by : SceneParts → List Entry → EntryKind → List Demand
queued_by s h kind = demands_from (length h) 0 (asked_by s h kind)

-- all demands that were queued
unfoldable pub demands : SceneParts → List Entry → List Demand
demands s [] = []
demands s (e ∷ h) = demands s h ++ queued_by s h e.kind

abbrev pub names : Option DemandId → DemandId → Bool
names None d = false
names (Some c) d = same_demand c d

-- an entry takes a demand
abbrev pub takes : EntryKind → DemandId → Bool
takes (Begin lane demand opening agent) d = names demand d
takes (Skip lane demand why) d = same_demand demand d
takes _ d = false

-- some entry took the demand
unfoldable pub taken : List Entry → DemandId → Bool
taken [] d = false
taken (e ∷ h) d = takes e.kind d || taken h d

-- the demands that were queued and not taken
unfoldable pub waiting : SceneParts → List Entry → List Demand
waiting s h = filter (λ d. not (taken h d.id)) (demands s h)

-- a list of demands without the first of this name
abbrev pub without : DemandId → List Demand → List Demand
without id [] = []
without id (d ∷ ds) = if same_demand id d.id then ds else d ∷ without id ds

-- the demand of a name, among these
abbrev pub named : DemandId → List Demand → Option Demand
named id ds = find (λ d. same_demand id d.id) ds

-- ---- the message of a demand: for an event its payload, otherwise an empty one

abbrev pub no_payload : Payload
no_payload = record { fields = replicate 4 (pos 0); used = 0 }

abbrev pub payload_of : DemandKind → Payload
payload_of (Event mbox msg payload) = payload
payload_of other = no_payload

abbrev pub payload_in : Option Demand → Payload
payload_in None = no_payload
payload_in (Some d) = payload_of d.kind

abbrev pub message_of : SceneParts → List Entry → Option DemandId → Payload
message_of s h None = no_payload
message_of s h (Some id) = payload_in (named id (demands s h))

-- ---- what an event is looked up by; a demand that is no event has none

abbrev pub source_of : DemandKind → Option EventSource
source_of (Event mbox msg payload) = Some (record { mbox = mbox; msg = msg })
source_of other = None

abbrev pub source_in : Option Demand → Option EventSource
source_in None = None
source_in (Some d) = source_of d.kind

abbrev pub event_of : SceneParts → List Entry → Option DemandId → Option EventSource
event_of s h None = None
event_of s h (Some id) = source_in (named id (demands s h))
