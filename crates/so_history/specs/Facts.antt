-- What a legal history has, in plain words.
use Rattle.std.specs.Prelude.{◌≡◌, ◌⊎◌, ℕ, ◌==◌, ◌<◌, ◌≤◌, nat_le, List, [], length, Bool, true, false, Option, Some, None, count_by}
use Rattle.std.specs.List.{filter, last_or}
use Rattle.so_ids.specs.declared.AgentId.{AgentId}
use Rattle.so_ids.specs.declared.CoopId.{CoopId}
use Rattle.so_ids.specs.declared.LaneId.{LaneId}
use Rattle.so_ids.specs.declared.DemandId.{DemandId}
use Rattle.so_ids.specs.declared.Opening.{Opening}
use Rattle.so_ids.specs.declared.Reason.{Reason}
use Rattle.so_ids.specs.declared.Refusal.{Refusal}
use Rattle.so_ids.specs.Ids.{is_earlier}
use Rattle.so_lists.specs.Lists.{head}
use Rattle.so_scene.specs.declared.parts.SceneParts.{SceneParts}
use Rattle.so_scene.specs.Parts.{agents_of, coop_of, priority_of}
use Rattle.so_code.specs.declared.effect.Effect.TheVariants as effect
use Rattle.so_code.specs.declared.effect.Answer.TheVariants as answer
use Rattle.so_scene.specs.declared.parts.DispKind.{DispKind}
use Rattle.so_scene.specs.declared.parts.DispKind.TheVariants.{StrictlyOrdered, QuotedRoundRobin}
use Rattle.so_scene.specs.Lanes.{queue_of}
use Rattle.so_history.specs.declared.entry.Entry.{Entry}
use Rattle.so_history.specs.declared.entry.EntryKind.{EntryKind}
use Rattle.so_history.specs.declared.entry.EntryKind.TheVariants.{Register, Refuse, Act, Begin, Skip, Leaving, Left}
use Rattle.so_history.specs.declared.entry.SkipWhy.{SkipWhy}
use Rattle.so_history.specs.declared.entry.Demand.{Demand}
use Rattle.so_history.specs.declared.entry.DemandKind.{DemandKind}
use Rattle.so_history.specs.declared.entry.DemandKind.TheVariants.{Start, Finish}
use Rattle.so_history.specs.Places.{entry_at, before}
use Rattle.so_history.specs.Demands.{ask_each, demands_from, demands, named, takes, waiting}
use Rattle.so_ids.specs.declared.Place.{Place}
use Rattle.so_history.specs.Leaves.{is_of}
use Rattle.so_history.specs.Turns.{ends}
use Rattle.so_history.specs.Finishing.{IsQuiet}
use Rattle.so_history.specs.Safety.{kind_of, is_safe}
use Rattle.so_history.specs.Order.{opening_of, skipped}

-- an entry of this kind stands at a place
pub record StandsAt (h : List Entry) (place : ℕ) (kind : EntryKind) : Type 0 where
  pub entry : Entry
  pub here : entry_at h place ≡ Some entry
  pub is : entry.kind ≡ kind

-- a turn of an agent begins at a place, with this opening
pub record BeginsAt (h : List Entry) (place : ℕ) (agent : AgentId) (opening : Opening) : Type 0 where
  pub lane : LaneId
  pub demand : Option DemandId
  pub stands : StandsAt h place (Begin lane demand opening agent)

-- the turn that began at place i ends before place j
pub record EndsBefore (h : List Entry) (i j : ℕ) : Type 0 where
  pub place : ℕ
  pub later : i < place
  pub earlier : place < j
  pub entry : Entry
  pub here : entry_at h place ≡ Some entry
  pub ends : ends entry.kind i ≡ true

-- two agents share a queue: they are bound to one dispatcher, and are of one part of its agents
abbrev pub ShareQueue : SceneParts → AgentId → AgentId → Type 0
ShareQueue s a b = queue_of s a ≡ queue_of s b

-- turns of two agents that begin so are both thread-safe
pub record AreSafe (s : SceneParts) (a b : AgentId) (first second : Opening) : Type 0 where
  pub earlier : is_safe s a first ≡ true
  pub later : is_safe s b second ≡ true

-- no overlap: of two turns whose agents share a queue, the earlier ends before the later begins, unless both are thread-safe
abbrev pub NoOverlap : SceneParts → List Entry → Type 0
NoOverlap s h =
    (i j : ℕ) (a b : AgentId) (first second : Opening) → i < j → BeginsAt h i a first → BeginsAt h j b second → ShareQueue s a b →
    EndsBefore h i j ⊎ AreSafe s a b first second

-- how often a demand was taken
abbrev pub takings : List Entry → DemandId → ℕ
takings h d = count_by (λ e. takes e.kind d) h

-- each demand is taken at most once
abbrev pub TakenOnce : List Entry → Type 0
TakenOnce h = (d : DemandId) → takings h d ≤ 1

-- the entry at a place takes a demand
pub record TakesAt (h : List Entry) (place : ℕ) (d : DemandId) : Type 0 where
  pub entry : Entry
  pub here : entry_at h place ≡ Some entry
  pub takes : takes entry.kind d ≡ true

-- the demand was taken before a place
pub record TakenBefore (h : List Entry) (d : DemandId) (place : ℕ) : Type 0 where
  pub when : ℕ
  pub earlier : when < place
  pub takes : TakesAt h when d

-- the dispatcher takes the demands of a queue by priority
abbrev pub is_by_priority : DispKind → Bool
is_by_priority StrictlyOrdered = true
is_by_priority QuotedRoundRobin = true
is_by_priority other = false

-- the demands of two agents are taken in order: they share a queue, and have one priority where it is taken by priority
pub record ShareOrder (s : SceneParts) (a b : AgentId) : Type 0 where
  pub queue : ShareQueue s a b
  pub priority : is_by_priority (kind_of s a) ≡ true → (priority_of s a).level ≡ (priority_of s b).level

-- in order: of two demands whose agents share it, the later is taken only after the earlier
abbrev pub InOrder : SceneParts → List Entry → Type 0
InOrder s h =
    (c d : Demand) (place : ℕ) → named c.id (demands s h) ≡ Some c → named d.id (demands s h) ≡ Some d → ShareOrder s c.agent d.agent →
    is_earlier c.id d.id ≡ true → TakesAt h place d.id → TakenBefore h c.id place

-- the demand that a turn takes waits, and the turn begins as that demand says
pub record BeginsWith (s : SceneParts) (h : List Entry) (id : DemandId) (opening : Opening) (agent : AgentId) : Type 0 where
  pub demand : Demand
  pub waits : named id (waiting s h) ≡ Some demand
  pub chosen : opening ≡ opening_of s h demand
  pub its_agent : agent ≡ demand.agent

-- the demand that is skipped waits, and there is a reason to skip it
pub record SkipsWith (s : SceneParts) (h : List Entry) (id : DemandId) (why : SkipWhy) : Type 0 where
  pub demand : Demand
  pub waits : named id (waiting s h) ≡ Some demand
  pub chosen : skipped (opening_of s h demand) ≡ Some why

-- by choice: each turn begins with what is chosen for its demand in the history before it, and each skip is chosen so too
pub record ByChoice (s : SceneParts) (h : List Entry) : Type 0 where
  pub begins :
      (place : ℕ) (lane : LaneId) (id : DemandId) (opening : Opening) (agent : AgentId) → StandsAt h place (Begin lane (Some id) opening agent) →
      BeginsWith s (before h place) id opening agent
  pub skips :
      (place : ℕ) (lane : LaneId) (id : DemandId) (why : SkipWhy) → StandsAt h place (Skip lane id why) →
      SkipsWith s (before h place) id why

-- the demands that the entry at a place queued
abbrev pub queued_at : SceneParts → List Entry → ℕ → List Demand
queued_at s h place = filter (λ d. d.id.place.0 == place) (demands s h)

-- the entry at a place registers a cooperation: main's, or an act's
pub data RegistersAt (h : List Entry) (place : ℕ) (coop : CoopId) : Type 0 where
  by_main : StandsAt h place (Register coop) → RegistersAt h place coop
  by_act : (turn : Place) → StandsAt h place (Act turn (effect.Register coop) answer.Okay) → RegistersAt h place coop

-- the entry at a place refuses to register a cooperation: main's, or an act's
pub data RefusesAt (h : List Entry) (place : ℕ) (coop : CoopId) (cause : Refusal) : Type 0 where
  by_main : StandsAt h place (Refuse coop cause) → RefusesAt h place coop cause
  by_act : (turn : Place) → StandsAt h place (Act turn (effect.Register coop) (answer.Refused cause)) → RefusesAt h place coop cause

-- a cooperation leaves for good between two places
pub record LeftBetween (h : List Entry) (coop : CoopId) (i j : ℕ) : Type 0 where
  pub place : ℕ
  pub later : i < place
  pub earlier : place < j
  pub left : StandsAt h place (Left coop)

-- whole cooperations: each agent is to start where its cooperation is registered, none where that is refused, and each to finish
-- where it leaves; when it has left, none of its agents has a demand that waits or a turn that runs; and of the cooperations that
-- name it as their parent, each that was registered has left before it. The first three say what the definition of demands comes to:
-- they hold of every list of entries, and refuse none
pub record WholeCoops (s : SceneParts) (h : List Entry) : Type 0 where
  pub starts : (place : ℕ) (coop : CoopId) → RegistersAt h place coop → queued_at s h place ≡ demands_from place 0 (ask_each Start (agents_of s coop))
  pub refused : (place : ℕ) (coop : CoopId) (cause : Refusal) → RefusesAt h place coop cause → queued_at s h place ≡ []
  pub finishes : (place : ℕ) (coop : CoopId) (reason : Reason) → StandsAt h place (Leaving coop reason) → queued_at s h place ≡ demands_from place 0 (ask_each Finish (agents_of s coop))
  pub leaves : (place : ℕ) (coop : CoopId) → StandsAt h place (Left coop) → IsQuiet s (before h place) coop
  pub children :
      (i j : ℕ) (child parent : CoopId) → (coop_of s child).parent ≡ Some parent → RegistersAt h i child → StandsAt h j (Left parent) → i < j →
      LeftBetween h child i j

-- the demands of an agent
abbrev pub demands_for : SceneParts → List Entry → AgentId → List Demand
demands_for s h a = filter (λ d. d.agent.0 == a.0) (demands s h)

-- those that were queued at a place or after it
abbrev pub demands_since : SceneParts → List Entry → ℕ → AgentId → List Demand
demands_since s h place a = filter (λ d. nat_le place d.id.place.0) (demands_for s h a)

-- a demand of this kind comes first, or last, of these
pub record IsFirst (kind : DemandKind) (ds : List Demand) : Type 0 where
  pub demand : Demand
  pub first : head ds ≡ Some demand
  pub is : demand.kind ≡ kind

pub record IsLast (kind : DemandKind) (ds : List Demand) : Type 0 where
  pub demand : Demand
  pub last : last_or None ds ≡ Some demand
  pub is : demand.kind ≡ kind

-- start and finish: from the registration of its cooperation an agent's first demand is to start, and its last, when the
-- cooperation has left, is to finish. The first of these holds of every list of entries
pub record StartsAndFinishes (s : SceneParts) (h : List Entry) : Type 0 where
  pub first : (place : ℕ) (coop : CoopId) (a : AgentId) → RegistersAt h place coop → a.0 < length s.agents → is_of s coop a ≡ true → IsFirst Start (demands_since s h place a)
  pub last : (i j : ℕ) (coop : CoopId) (a : AgentId) → RegistersAt h i coop → StandsAt h j (Left coop) → i < j → a.0 < length s.agents → is_of s coop a ≡ true → IsLast Finish (demands_since s (before h j) i a)

-- the six facts
pub record HasFacts (s : SceneParts) (h : List Entry) : Type 0 where
  pub overlap : NoOverlap s h
  pub once : TakenOnce h
  pub order : InOrder s h
  pub choice : ByChoice s h
  pub coops : WholeCoops s h
  pub ends : StartsAndFinishes s h
