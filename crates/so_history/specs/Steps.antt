-- Which entry may follow a history, and which histories are legal.
use Rattle.std.specs.Prelude.{◌≡◌, ℕ, ◌<◌, ◌≤◌, List, [], ◌∷◌, length, Bool, true, false, not, ◌&&◌, ◌||◌, ◌⊎◌, Option, Some, None, if◌then◌else◌, slice_index_or, is_some, is_none}
use Rattle.std.specs.List.{filter}
use Rattle.std.specs.Option.{option_map}
use Rattle.so_ids.specs.declared.PartyId.{PartyId}
use Rattle.so_ids.specs.declared.LaneId.{LaneId}
use Rattle.so_ids.specs.declared.CoopId.{CoopId}
use Rattle.so_ids.specs.declared.AgentId.{AgentId}
use Rattle.so_ids.specs.declared.MsgId.{MsgId}
use Rattle.so_ids.specs.declared.Payload.{Payload}
use Rattle.so_ids.specs.declared.RowId.{RowId}
use Rattle.so_ids.specs.declared.Plan.{Plan}
use Rattle.so_ids.specs.declared.Target.{Target}
use Rattle.so_ids.specs.declared.Target.TheVariants.{Mbox, Chain}
use Rattle.so_ids.specs.declared.Reason.{Reason}
use Rattle.so_ids.specs.declared.Refusal.{Refusal}
use Rattle.so_ids.specs.Ids.{main_party, party_of}
use Rattle.so_code.specs.declared.effect.Answer.{Answer}
use Rattle.so_code.specs.declared.effect.Answer.TheVariants as answer
use Rattle.so_code.specs.declared.effect.Effect.{Effect}
use Rattle.so_code.specs.declared.effect.Effect.TheVariants as effect
use Rattle.so_code.specs.declared.effect.Move.{Move}
use Rattle.so_code.specs.declared.effect.Move.TheVariants.{Do, Done, Fail}
use Rattle.so_lists.specs.Lists.{is_empty, first_below}
use Rattle.so_scene.specs.declared.parts.SceneParts.{SceneParts}
use Rattle.so_scene.specs.Parts.{mboxes, rows_of, filters_of, states_of}
use Rattle.so_scene.specs.Subscriptions.{row_of}
use Rattle.so_scene.specs.Definition.{is_twice}
use Rattle.so_scene.specs.Checked.{IsTarget}
use Rattle.so_scene.specs.Lanes.{lanes}
use Rattle.so_scene.specs.Cooperations.{coop_number, admission, reason_of, leaving_next, has_child}
use Rattle.so_history.specs.declared.entry.Entry.{Entry}
use Rattle.so_history.specs.declared.entry.EntryKind.{EntryKind}
use Rattle.so_history.specs.declared.entry.EntryKind.TheVariants.{Register, Refuse, Begin, Skip, Act, End, Leaving, Left, Stop, Abort}
use Rattle.so_history.specs.declared.entry.Demand.{Demand}
use Rattle.so_history.specs.declared.entry.StopCause.{StopCause}
use Rattle.so_history.specs.declared.entry.StopCause.TheVariants.{Asked, Auto, Idle}
use Rattle.so_history.specs.declared.entry.AbortCause.{AbortCause}
use Rattle.so_history.specs.declared.entry.AbortCause.TheVariants.{Exception}
use Rattle.so_history.specs.declared.entry.EventSource.{EventSource}
use Rattle.so_history.specs.Leaves.{is_of, switch_of}
use Rattle.so_history.specs.Delivery.{active_rows, active_filters, sent, chosen_for}
use Rattle.so_history.specs.Demands.{waiting}
use Rattle.so_history.specs.Turns.{Started, Course, running, turn_at, course, move_of}
use Rattle.so_history.specs.Coops.{roster, leaving, may_mark, next_coop, all_tried, stopped, stop_asked, all_gone, aborted, standing}
use Rattle.so_history.specs.Order.{pick, taking}

-- the demands that wait for agents of a cooperation, and the turns of these that run
abbrev pub waiting_for : SceneParts → List Entry → CoopId → List Demand
waiting_for s h c = filter (λ d. is_of s c d.agent) (waiting s h)

abbrev pub running_for : SceneParts → List Entry → CoopId → List Started
running_for s h c = filter (λ t. is_of s c t.agent) (running h)

-- the cooperation is leaving, none of its agents has a demand or a turn, so that they have finished, and it has no child
unfoldable pub may_leave : SceneParts → List Entry → CoopId → Bool
may_leave s h c =
    leaving h c && (is_empty (waiting_for s h c) && (is_empty (running_for s h c) && not (has_child s (standing h) c)))

-- the least cooperation that may leave
abbrev pub left_at : SceneParts → List Entry → ℕ → Option CoopId
left_at s h k = if may_leave s h (coop_number k) then Some (coop_number k) else None

unfoldable pub left_next : SceneParts → List Entry → Option CoopId
left_next s h = first_below (left_at s h) (length s.coops)

-- nothing is left to do: main has tried all its registrations, no demand waits, no turn runs, and no cooperation has a reason
-- to leave or may leave
unfoldable pub is_idle : SceneParts → List Entry → Bool
is_idle s h =
    all_tried s h && (is_empty (waiting s h) && (is_empty (running h) && (is_none (leaving_next s (standing h)) && is_none (left_next s h))))

-- the run is over: it was stopped, no cooperation is present, and no demand waits
unfoldable pub finished : SceneParts → List Entry → Bool
finished s h = stopped h && (is_empty (roster h) && is_empty (waiting s h))

-- nothing follows: the run is over, or it was aborted
abbrev pub is_over : SceneParts → List Entry → Bool
is_over s h = finished s h || aborted h

-- what an effect of an agent's turn names is there, and its act is built. A choice is made for the event of the turn
abbrev pub NamesEffect : SceneParts → AgentId → Option EventSource → Effect → Type 0
NamesEffect s a event (effect.Log text payload) = text.0 < length s.texts
NamesEffect s a event (effect.Send target msg payload) = IsTarget (mboxes s) target × (msg.0 < length s.messages)
NamesEffect s a event (effect.Subscribe row) = row.0 < length (rows_of s a)
NamesEffect s a event (effect.Unsubscribe row) = row.0 < length (rows_of s a)
NamesEffect s a event (effect.SetFilter filter) = filter.0 < length (filters_of s a)
NamesEffect s a event (effect.DropFilter filter) = filter.0 < length (filters_of s a)
NamesEffect s a event (effect.Switch to) = to.0 ≤ length (states_of s a)
NamesEffect s a event (effect.SetState leaf) = leaf.0 ≤ length (states_of s a)
NamesEffect s a event effect.Choose = is_some event ≡ true
NamesEffect s a event (effect.Register coop) = coop.0 < length s.coops
NamesEffect s a event (effect.Deregister coop) = coop.0 < length s.coops
NamesEffect s a event effect.Stop = Unit {0}
NamesEffect s a event other = ⊥

-- the answer to a send
abbrev pub answer_to_send : SceneParts → List Entry → Target → MsgId → Payload → Option Answer
answer_to_send s h (Mbox mbox) msg payload = Some (answer.Sent (sent s h mbox msg payload))
answer_to_send s h (Chain chain) msg payload = None

abbrev pub yes_where : Bool → Answer
yes_where b = if b then answer.Yes else answer.No

-- the row may become active: no active row is for the same events, so that it is not active itself
abbrev pub may_subscribe : SceneParts → List Entry → AgentId → RowId → Bool
may_subscribe s h a row = not (is_twice (rows_of s a) (active_rows s h a) (row_of s a row))

-- the row, or the filter, of this number is active
abbrev pub is_active : List Bool → ℕ → Bool
is_active active k = slice_index_or active k false

-- a switch is answered by its plan
abbrev pub answer_to_switch : Option Plan → Answer
answer_to_switch None = answer.Same
answer_to_switch (Some plan) = answer.Planned plan

-- what is chosen now for the event of a turn
abbrev pub choice_for : SceneParts → List Entry → AgentId → EventSource → Answer
choice_for s h a event = answer.Chose (chosen_for s h a event.mbox event.msg)

-- a registration is made, or refused for this cause
abbrev pub answer_to_register : Option Refusal → Answer
answer_to_register None = answer.Okay
answer_to_register (Some cause) = answer.Refused cause

-- the answer to an effect of an agent's turn, where it has one
abbrev pub answer_of : SceneParts → List Entry → AgentId → Option EventSource → Effect → Option Answer
answer_of s h a event (effect.Log text payload) = Some answer.Okay
answer_of s h a event (effect.Send target msg payload) = answer_to_send s h target msg payload
answer_of s h a event (effect.Subscribe row) = Some (yes_where (may_subscribe s h a row))
answer_of s h a event (effect.Unsubscribe row) = Some (yes_where (is_active (active_rows s h a) row.0))
answer_of s h a event (effect.SetFilter filter) = Some answer.Yes
answer_of s h a event (effect.DropFilter filter) = Some (yes_where (is_active (active_filters s h a) filter.0))
answer_of s h a event (effect.Switch to) = Some (answer_to_switch (switch_of s h a to))
answer_of s h a event (effect.SetState leaf) = Some answer.Okay
answer_of s h a event effect.Choose = option_map (choice_for s h a) event
answer_of s h a event (effect.Register coop) = Some (answer_to_register (admission s (standing h) coop))
answer_of s h a event (effect.Deregister coop) = Some (yes_where (may_mark h coop))
answer_of s h a event effect.Stop = Some answer.Okay
answer_of s h a event other = None

-- the entry of the move of an agent's turn, where it has one. An exception aborts the run
abbrev pub entry_of : SceneParts → List Entry → AgentId → Option EventSource → ℕ → Move → Option EntryKind
entry_of s h a event place (Do effect) = option_map (Act (record { 0 = place }) effect) (answer_of s h a event effect)
entry_of s h a event place Done = Some (End (record { 0 = place }))
entry_of s h a event place (Fail kind) = Some (Abort (Exception (record { 0 = place }) kind))

-- what a lane takes is signed by main or by the lane's party
abbrev pub IsSigner : PartyId → LaneId → Type 0
IsSigner by lane = (by ≡ main_party) ⊎ (by ≡ party_of lane)

-- a free lane takes the demand that it may take, and begins its turn or skips it
pub record IsTaking (s : SceneParts) (h : List Entry) (by : PartyId) (lane : LaneId) (kind : EntryKind) : Type 0 where
  pub signed : IsSigner by lane
  pub in_range : lane.0 < lanes s
  pub demand : Demand
  pub picked : pick s h lane ≡ Some demand
  pub is : kind ≡ taking s h lane demand

-- a running turn makes its next move, signed by the party that began it
pub record IsMove (s : SceneParts) (h : List Entry) (by : PartyId) (place : ℕ) (kind : EntryKind) : Type 0 where
  pub turn : Started
  pub runs : turn_at h place ≡ Some turn
  pub signed : by ≡ turn.by
  pub reached : Course
  pub has : course s h place ≡ Some reached
  pub is : entry_of s h reached.agent reached.event place (move_of s reached).0 ≡ Some kind

-- main registers its next cooperation, where the rules of admission refuse it or don't
pub record IsRegistering (s : SceneParts) (h : List Entry) (by : PartyId) (coop : CoopId) (cause : Option Refusal) : Type 0 where
  pub signed : by ≡ main_party
  pub next : next_coop s h ≡ Some coop
  pub admitted : admission s (standing h) coop ≡ cause

-- a cooperation with a reason begins to leave
pub record IsLeaving (s : SceneParts) (h : List Entry) (by : PartyId) (coop : CoopId) (reason : Reason) : Type 0 where
  pub signed : by ≡ main_party
  pub has : reason_of s (standing h) coop ≡ Some reason

pub record IsLeft (s : SceneParts) (h : List Entry) (by : PartyId) (coop : CoopId) : Type 0 where
  pub signed : by ≡ main_party
  pub may : may_leave s h coop ≡ true

-- a stop comes once: where a turn asked for it; else, with autoshutdown, where all cooperations are gone; else where nothing is
-- left to do
abbrev pub is_auto : SceneParts → List Entry → Bool
is_auto s h = s.autoshutdown && all_gone s h

abbrev pub may_stop : SceneParts → List Entry → StopCause → Bool
may_stop s h Asked = not (stopped h) && stop_asked h
may_stop s h Auto = not (stopped h) && (not (stop_asked h) && is_auto s h)
may_stop s h Idle = not (stopped h) && (not (stop_asked h) && (not (is_auto s h) && is_idle s h))

pub record IsStop (s : SceneParts) (h : List Entry) (by : PartyId) (cause : StopCause) : Type 0 where
  pub signed : by ≡ main_party
  pub may : may_stop s h cause ≡ true

-- a running turn's exception aborts the run
abbrev pub IsAbort : SceneParts → List Entry → PartyId → AbortCause → Type 0
IsAbort s h by (Exception turn kind) = IsMove s h by turn.0 (Abort (Exception turn kind))

-- what an entry of each kind asks of the history before it
abbrev pub MayFollow : SceneParts → List Entry → PartyId → EntryKind → Type 0
MayFollow s h by (Register coop) = IsRegistering s h by coop None
MayFollow s h by (Refuse coop cause) = IsRegistering s h by coop (Some cause)
MayFollow s h by (Begin lane demand opening agent) = IsTaking s h by lane (Begin lane demand opening agent)
MayFollow s h by (Skip lane demand why) = IsTaking s h by lane (Skip lane demand why)
MayFollow s h by (Act turn effect answer) = IsMove s h by turn.0 (Act turn effect answer)
MayFollow s h by (End turn) = IsMove s h by turn.0 (End turn)
MayFollow s h by (Leaving coop reason) = IsLeaving s h by coop reason
MayFollow s h by (Left coop) = IsLeft s h by coop
MayFollow s h by (Stop cause) = IsStop s h by cause
MayFollow s h by (Abort cause) = IsAbort s h by cause

-- an entry is a legal step after a history
pub record IsStep (s : SceneParts) (h : List Entry) (e : Entry) : Type 0 where
  pub goes_on : is_over s h ≡ false
  pub row : MayFollow s h e.by e.kind

-- each entry is a legal step after those before it
abbrev pub Legal : SceneParts → List Entry → Type 0
Legal s [] = Unit {0}
Legal s (e ∷ h) = Legal s h × IsStep s h e
