-- What an entry makes of the demands, and what it asks of them.
use Rattle.std.specs.Prelude.{◌≡◌, ℕ, ◌+◌, ◌-◌, ◌<◌, ◌≤◌, ◌^◌, List, length, map, true, Some}
use Rattle.std.specs.List.{All, AllByRecursion, find}
use Rattle.so_ids.specs.declared.CoopId.{CoopId}
use Rattle.so_ids.specs.declared.LaneId.{LaneId}
use Rattle.so_ids.specs.declared.Place.{Place}
use Rattle.so_ids.specs.declared.Queued.{Queued}
use Rattle.so_ids.specs.declared.Target.TheVariants.{Mbox}
use Rattle.so_code.specs.declared.effect.Answer.{Answer}
use Rattle.so_code.specs.declared.effect.Answer.TheVariants as answer
use Rattle.so_code.specs.declared.effect.Effect.{Effect}
use Rattle.so_code.specs.declared.effect.Effect.TheVariants as effect
use Rattle.so_scene.specs.declared.parts.SceneParts.{SceneParts}
use Rattle.so_scene.specs.Delivery.{events}
use Rattle.so_scene.specs.Lanes.{lanes, keys}
use Rattle.so_scene.specs.Parts.{agents_of, coop_of}
use Rattle.so_history.specs.declared.entry.Demand.{Demand}
use Rattle.so_history.specs.declared.entry.DemandKind.TheVariants.{Start, Finish}
use Rattle.so_history.specs.declared.entry.Entry.{Entry}
use Rattle.so_history.specs.declared.entry.EntryKind.{EntryKind}
use Rattle.so_history.specs.declared.entry.EntryKind.TheVariants.{Register, Begin, Skip, Act, End, Leaving}
use Rattle.so_history.specs.Delivery.{delivered}
use Rattle.so_history.specs.Demands.{Asked, ask, ask_each, demands_from}
use Rattle.so_events.specs.Events.{EventTable, after_demands, after_taking, after_start, after_end as turn_ended, turns_of, is_beside}
use Rattle.so_events.specs.Tied.{overlaps}
use Rattle.so_tables.specs.declared.found.Found.{Found}
use Rattle.so_tables.specs.declared.found.Found.TheVariants as what

-- a message that is sent queues the events of its delivery
abbrev pub IsSentBy : SceneParts → List Entry → Effect → List Queued → Type 0
IsSentBy s h (effect.Send (Mbox mbox) msg payload) sent = sent ≡ events (delivered s h mbox msg payload)
IsSentBy s h other sent = Unit {0}

abbrev pub IsSent : SceneParts → List Entry → EntryKind → List Queued → Type 0
IsSent s h (Act turn effect said) sent = IsSentBy s h effect sent
IsSent s h other sent = Unit {0}

-- ---- what an entry makes of them

abbrev pub after_asking : Place → List Asked → EventTable → EventTable
after_asking place asked t = after_demands (demands_from place.0 0 asked) t

abbrev pub after_act : List Queued → Place → Effect → Answer → EventTable → EventTable
after_act sent place (effect.Send (Mbox mbox) msg payload) said t = after_asking place (map ask sent) t
after_act sent place (effect.Register coop) answer.Okay t = after_asking place (ask_each Start (agents_of t.scene coop)) t
after_act sent place other said t = t

abbrev pub after_begin : Found → LaneId → EventTable → EventTable
after_begin (what.Demand d) lane t = after_start d.safe d.key (after_taking lane d.demand t)
after_begin other lane t = t

abbrev pub after_skip : Found → LaneId → EventTable → EventTable
after_skip (what.Demand d) lane t = after_taking lane d.demand t
after_skip other lane t = t

abbrev pub after_end : Found → EventTable → EventTable
after_end (what.Turn x) t = turn_ended x.safe x.key t
after_end other t = t

abbrev pub after_entry : Found → List Queued → Place → EntryKind → EventTable → EventTable
after_entry found sent place (Register coop) t = after_asking place (ask_each Start (agents_of t.scene coop)) t
after_entry found sent place (Begin lane demand opening agent) t = after_begin found lane t
after_entry found sent place (Skip lane demand why) t = after_skip found lane t
after_entry found sent place (Act turn effect said) t = after_act sent place effect said t
after_entry found sent place (End turn) t = after_end found t
after_entry found sent place (Leaving coop reason) t = after_asking place (ask_each Finish (agents_of t.scene coop)) t
after_entry found sent place other t = t

-- ---- what it asks of them

-- there is room for so many, and all were queued before
pub record HasRoom (place : Place) (n : ℕ) (t : EventTable) : Type 0 where
  pub room : length t.queued + n ≤ t.room
  pub later : AllByRecursion (λ (d : Demand). d.id.place.0 < place.0) t.queued

abbrev pub MayAsk : Place → CoopId → EventTable → Type 0
MayAsk place coop t = (coop.0 < length t.scene.coops) × HasRoom place (coop_of t.scene coop).count t

abbrev pub MaySend : List Queued → Place → EventTable → Type 0
MaySend sent place t = All (λ (q : Queued). q.agent.0 < length t.scene.agents) sent × HasRoom place (length sent) t

abbrev pub MayAct : List Queued → Place → Effect → Answer → EventTable → Type 0
MayAct sent place (effect.Send (Mbox mbox) msg payload) said t = MaySend sent place t
MayAct sent place (effect.Register coop) answer.Okay t = MayAsk place coop t
MayAct sent place other said t = Unit {0}

abbrev pub MayTake : LaneId → Demand → EventTable → Type 0
MayTake lane d t = (lane.0 < lanes t.scene) × (find (is_beside t.scene d) t.waiting ≡ Some d)

abbrev pub MayStart : Found → EventTable → Type 0
MayStart (what.Demand d) t = (d.key.0 < keys t.scene) × (d.safe ≡ true → overlaps t.scene d.key.0 ≡ true) × (turns_of d.safe t d.key < 2 ^ 32 - 1)
MayStart other t = Unit {0}

abbrev pub MaySkip : Found → LaneId → EventTable → Type 0
MaySkip (what.Demand d) lane t = MayTake lane d.demand t
MaySkip other lane t = Unit {0}

abbrev pub MayBegin : Found → LaneId → EventTable → Type 0
MayBegin found lane t = MaySkip found lane t × MayStart found t

abbrev pub MayEnd : Found → EventTable → Type 0
MayEnd (what.Turn x) t = (x.key.0 < keys t.scene) × (0 < turns_of x.safe t x.key)
MayEnd other t = Unit {0}

abbrev pub MayAbsorb : Found → List Queued → Place → EntryKind → EventTable → Type 0
MayAbsorb found sent place (Register coop) t = MayAsk place coop t
MayAbsorb found sent place (Begin lane demand opening agent) t = MayBegin found lane t
MayAbsorb found sent place (Skip lane demand why) t = MaySkip found lane t
MayAbsorb found sent place (Act turn effect said) t = MayAct sent place effect said t
MayAbsorb found sent place (End turn) t = MayEnd found t
MayAbsorb found sent place (Leaving coop reason) t = MayAsk place coop t
MayAbsorb found sent place other t = Unit {0}
