-- Who makes what happen: a turn moves only while it runs, and by the party that began it.
use Rattle.std.specs.Prelude.{◌≡◌, ℕ, ◌<◌, List, Option, Some, None}
use Rattle.so_ids.specs.declared.AgentId.{AgentId}
use Rattle.so_ids.specs.declared.DemandId.{DemandId}
use Rattle.so_ids.specs.declared.LaneId.{LaneId}
use Rattle.so_ids.specs.declared.Opening.{Opening}
use Rattle.so_ids.specs.declared.PartyId.{PartyId}
use Rattle.so_ids.specs.declared.Place.{Place}
use Rattle.so_ids.specs.Ids.{main_party}
use Rattle.so_history.specs.declared.entry.Entry.{Entry}
use Rattle.so_history.specs.declared.entry.EntryKind.{EntryKind}
use Rattle.so_history.specs.declared.entry.EntryKind.TheVariants.{Begin, Skip, Act, End, Abort}
use Rattle.so_history.specs.declared.entry.AbortCause.TheVariants.{Exception}
use Rattle.so_history.specs.Places.{entry_at}
use Rattle.so_history.specs.Steps.{IsSigner}
use Rattle.so_history.specs.Facts.{EndsBefore}

-- the turn that an entry moves: by an act, by its end, or by its exception
abbrev pub moved_turn : EntryKind → Option Place
moved_turn (Act turn effect answer) = Some turn
moved_turn (End turn) = Some turn
moved_turn (Abort (Exception turn kind)) = Some turn
moved_turn other = None

-- a turn runs at a place: it began before, by this party, and has not ended before
pub record RunsThen (h : List Entry) (turn : Place) (party : PartyId) (place : ℕ) : Type 0 where
  pub earlier : turn.0 < place
  pub entry : Entry
  pub here : entry_at h turn.0 ≡ Some entry
  pub lane : LaneId
  pub demand : Option DemandId
  pub opening : Opening
  pub agent : AgentId
  pub begins : entry.kind ≡ Begin lane demand opening agent
  pub its_party : entry.by ≡ party
  pub goes_on : EndsBefore h turn.0 place → ⊥

-- who may sign what moves no turn: main, or for what a lane takes also the lane's party
abbrev pub MaySign : PartyId → EntryKind → Type 0
MaySign by (Begin lane demand opening agent) = IsSigner by lane
MaySign by (Skip lane demand why) = IsSigner by lane
MaySign by (Act turn effect answer) = Unit {0}
MaySign by (End turn) = Unit {0}
MaySign by (Abort cause) = Unit {0}
MaySign by other = by ≡ main_party

-- while running: what moves a turn moves one that runs then, and is signed by the party that began it; and each other entry is signed
-- by a party that may
pub record WhileRunning (h : List Entry) : Type 0 where
  pub signed : (place : ℕ) (e : Entry) → entry_at h place ≡ Some e → MaySign e.by e.kind
  pub moves : (place : ℕ) (turn : Place) (e : Entry) → entry_at h place ≡ Some e → moved_turn e.kind ≡ Some turn → RunsThen h turn e.by place
