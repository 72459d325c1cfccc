-- The entry that each pick makes, the first legal step, and the chain of first steps: the run of the simulation.
use Rattle.std.specs.Prelude.{◌≡◌, ℕ, ◌<◌, List, [], ◌∷◌, false, Option, Some, None, if◌then◌else◌}
use Rattle.std.specs.Option.{option_map, option_and_then}
use Rattle.so_ids.specs.declared.PartyId.{PartyId}
use Rattle.so_ids.specs.declared.LaneId.{LaneId}
use Rattle.so_ids.specs.declared.CoopId.{CoopId}
use Rattle.so_ids.specs.declared.Reason.{Reason}
use Rattle.so_ids.specs.declared.Refusal.{Refusal}
use Rattle.so_ids.specs.Ids.{main_party, party_of}
use Rattle.so_lists.specs.Lists.{or_else, head, first_below}
use Rattle.so_scene.specs.declared.parts.SceneParts.{SceneParts}
use Rattle.so_scene.specs.Lanes.{lanes}
use Rattle.so_scene.specs.Cooperations.{admission, leaving_next}
use Rattle.so_history.specs.declared.entry.Entry.{Entry}
use Rattle.so_history.specs.declared.entry.EntryKind.{EntryKind}
use Rattle.so_history.specs.declared.entry.EntryKind.TheVariants.{Register, Refuse, Leaving, Left, Stop}
use Rattle.so_history.specs.declared.entry.StopCause.{StopCause}
use Rattle.so_history.specs.declared.entry.StopCause.TheVariants.{Asked, Auto, Idle}
use Rattle.so_history.specs.declared.entry.Pick.{Pick}
use Rattle.so_history.specs.declared.entry.Pick.TheVariants as pick
use Rattle.so_history.specs.Turns.{Started, Course, running_on, course, move_of}
use Rattle.so_history.specs.Coops.{next_coop, standing}
use Rattle.so_history.specs.Order.{pick as picked, taking}
use Rattle.so_history.specs.Units.{fits}
use Rattle.so_history.specs.Steps.{left_next, may_stop, is_over, entry_of}

abbrev pub by_main : EntryKind → Entry
by_main kind = record { by = main_party; kind = kind }

abbrev pub signed : PartyId → EntryKind → Entry
signed by kind = record { by = by; kind = kind }

-- the entry of a turn's next move, where it has one
abbrev pub next_of : SceneParts → List Entry → Started → Course → Option Entry
next_of s h t c = option_map (signed t.by) (entry_of s h c.agent c.event t.place (move_of s c).0)

abbrev pub turn_entry : SceneParts → List Entry → Option Started → Option Entry
turn_entry s h None = None
turn_entry s h (Some t) = option_and_then (next_of s h t) (course s h t.place)

-- the first turn that runs on a lane
abbrev pub turn_on : List Entry → LaneId → Option Started
turn_on h lane = head (running_on h lane)

-- the entry by which a lane takes the demand that it may take
abbrev pub taking_entry : SceneParts → List Entry → LaneId → Option Entry
taking_entry s h lane = option_map (λ d. record { by = party_of lane; kind = taking s h lane d }) (picked s h lane)

-- main's next registration, if it has not tried all: the cooperation is registered, or refused
abbrev pub registering : CoopId → Option Refusal → EntryKind
registering c None = Register c
registering c (Some cause) = Refuse c cause

abbrev pub registration_of : SceneParts → List Entry → CoopId → Entry
registration_of s h c = by_main (registering c (admission s (standing h) c))

unfoldable pub registration : SceneParts → List Entry → Option Entry
registration s h = option_map (registration_of s h) (next_coop s h)

-- the least cooperation that has a reason begins to leave, and the least that may leave has left
abbrev pub leaving_for : CoopId × Reason → Entry
leaving_for why = by_main (Leaving why.0 why.1)

abbrev pub leaving_entry : SceneParts → List Entry → Option Entry
leaving_entry s h = option_map leaving_for (leaving_next s (standing h))

abbrev pub left_for : CoopId → Entry
left_for c = by_main (Left c)

abbrev pub left_entry : SceneParts → List Entry → Option Entry
left_entry s h = option_map left_for (left_next s h)

abbrev pub stop_entry : SceneParts → List Entry → StopCause → Option Entry
stop_entry s h cause = if may_stop s h cause then Some (by_main (Stop cause)) else None

-- what main is to tidy: a stop was asked for, all cooperations are gone, one leaves, or has left, or nothing is left to do
unfoldable pub tidying : SceneParts → List Entry → Option Entry
tidying s h =
    or_else (stop_entry s h Asked)
    (or_else (stop_entry s h Auto)
    (or_else (leaving_entry s h)
    (or_else (left_entry s h)
    (stop_entry s h Idle))))

-- the next step of a lane: that of its running turn, or else what it takes
unfoldable pub lane_entry : SceneParts → List Entry → LaneId → Option Entry
lane_entry s h lane = or_else (turn_entry s h (turn_on h lane)) (taking_entry s h lane)

-- a lane that is picked is one of the scene's
abbrev pub IsPickInRange : SceneParts → Pick → Type 0
IsPickInRange s (pick.Lane lane) = lane.0 < lanes s
IsPickInRange s other = Unit {0}

-- what a pick makes in a run that goes on
abbrev pub pick_entry : SceneParts → List Entry → Pick → Option Entry
pick_entry s h pick.Register = registration s h
pick_entry s h (pick.Lane lane) = lane_entry s h lane
pick_entry s h pick.Tidy = tidying s h

-- the step of a pick: none where the run is over
unfoldable pub step_of : SceneParts → List Entry → Pick → Option Entry
step_of s h pick = if is_over s h then None else pick_entry s h pick

-- what comes first in a run that goes on, in the order of the simulation
unfoldable pub first_entry : SceneParts → List Entry → Option Entry
first_entry s h =
    or_else (first_below (λ l. turn_entry s h (turn_on h (record { 0 = l }))) (lanes s))
    (or_else (registration s h)
    (or_else (stop_entry s h Asked)
    (or_else (stop_entry s h Auto)
    (or_else (leaving_entry s h)
    (or_else (left_entry s h)
    (or_else (first_below (λ l. taking_entry s h (record { 0 = l })) (lanes s))
    (stop_entry s h Idle)))))))

-- the first legal step: none where the run is over
unfoldable pub first : SceneParts → List Entry → Option Entry
first s h = if is_over s h then None else first_entry s h

-- a step, where it fits the units
abbrev pub fitting : SceneParts → ℕ → List Entry → Option Entry → Option Entry
fitting s limit h None = None
fitting s limit h (Some e) = if fits s limit h e then Some e else None

-- the simulation's next entry: the first legal step, where it fits
unfoldable pub next_entry : SceneParts → ℕ → List Entry → Option Entry
next_entry s limit h = fitting s limit h (first s h)

-- each entry is the simulation's next after those before it
abbrev pub FollowsFirst : SceneParts → ℕ → List Entry → Type 0
FollowsFirst s limit [] = Unit {0}
FollowsFirst s limit (e ∷ h) = FollowsFirst s limit h × (next_entry s limit h ≡ Some e)

-- the whole run of the simulation: each entry follows, and after the last nothing does
pub record IsChain (s : SceneParts) (limit : ℕ) (h : List Entry) : Type 0 where
  pub follows : FollowsFirst s limit h
  pub whole : next_entry s limit h ≡ None

-- a run that stops at its limit: its first step doesn't fit
pub record StopsAtLimit (s : SceneParts) (limit : ℕ) (h : List Entry) : Type 0 where
  pub entry : Entry
  pub next : first s h ≡ Some entry
  pub too_large : fits s limit h entry ≡ false
