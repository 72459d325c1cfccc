-- How the cooperations and the run stand: the last entry that tells decides.
use Rattle.std.specs.Prelude.{ℕ, ◌==◌, List, [], ◌∷◌, ◌++◌, length, Bool, true, false, not, ◌&&◌, ◌||◌, Option, Some, None, is_none, if◌then◌else◌}
use Rattle.std.specs.List.{filter, list_any}
use Rattle.so_ids.specs.declared.CoopId.{CoopId}
use Rattle.so_ids.specs.declared.Reason.{Reason}
use Rattle.so_ids.specs.declared.Reason.TheVariants as reason
use Rattle.so_code.specs.declared.effect.Effect.{Effect}
use Rattle.so_code.specs.declared.effect.Effect.TheVariants as effect
use Rattle.so_code.specs.declared.effect.Answer.{Answer}
use Rattle.so_code.specs.declared.effect.Answer.TheVariants as answer
use Rattle.so_lists.specs.Lists.{is_empty, or_else, first_below}
use Rattle.so_scene.specs.declared.parts.SceneParts.{SceneParts}
use Rattle.so_scene.specs.Parts.{coop_of}
use Rattle.so_scene.specs.Cooperations.{Standing, coop_number}
use Rattle.so_history.specs.declared.entry.Entry.{Entry}
use Rattle.so_history.specs.declared.entry.EntryKind.{EntryKind}
use Rattle.so_history.specs.declared.entry.EntryKind.TheVariants.{Register, Refuse, Act, Leaving, Left, Stop, Abort}

abbrev pub is_same : CoopId → CoopId → Bool
is_same c d = c.0 == d.0

abbrev pub is_other : CoopId → CoopId → Bool
is_other c d = not (is_same c d)

-- ---- which are present

-- an act registers a cooperation where it is answered so
abbrev pub roster_by_effect : Effect → Answer → List CoopId → List CoopId
roster_by_effect (effect.Register coop) answer.Okay cs = cs ++ coop ∷ []
roster_by_effect effect answer cs = cs

abbrev pub roster_by : EntryKind → List CoopId → List CoopId
roster_by (Register coop) cs = cs ++ coop ∷ []
roster_by (Act turn effect answer) cs = roster_by_effect effect answer cs
roster_by (Left coop) cs = filter (is_other coop) cs
roster_by _ cs = cs

-- the cooperations that are present, each from its registration to its Left, in order of registration
unfoldable pub roster : List Entry → List CoopId
roster [] = []
roster (e ∷ h) = roster_by e.kind (roster h)

abbrev pub present : List Entry → CoopId → Bool
present h c = list_any (is_same c) (roster h)

-- ---- which are leaving

abbrev pub leaving_by : EntryKind → CoopId → Bool → Bool
leaving_by (Leaving coop reason) c b = is_same c coop || b
leaving_by (Left coop) c b = is_other c coop && b
leaving_by _ c b = b

-- from its Leaving to its Left
unfoldable pub leaving : List Entry → CoopId → Bool
leaving [] c = false
leaving (e ∷ h) c = leaving_by e.kind c (leaving h c)

-- ---- which are marked to leave

-- an act marks a cooperation where it is answered so
abbrev pub mark_by_effect : Effect → Answer → CoopId → Option Reason → Option Reason
mark_by_effect (effect.Deregister coop) answer.Yes c m = if is_same c coop then or_else m (Some reason.Asked) else m
mark_by_effect effect answer c m = m

abbrev pub mark_by : EntryKind → CoopId → Option Reason → Option Reason
mark_by (Act turn effect answer) c m = mark_by_effect effect answer c m
mark_by (Left coop) c m = if is_same c coop then None else m
mark_by _ c m = m

-- the first mark since its registration, until its Left
unfoldable pub mark : List Entry → CoopId → Option Reason
mark [] c = None
mark (e ∷ h) c = mark_by e.kind c (mark h c)

-- it can be marked: it is present, and neither leaving nor marked
abbrev pub may_mark : List Entry → CoopId → Bool
may_mark h c = present h c && (not (leaving h c) && is_none (mark h c))

-- ---- which main has tried to register

abbrev pub tried_by : EntryKind → CoopId → Bool → Bool
tried_by (Register coop) c b = is_same c coop || b
tried_by (Refuse coop cause) c b = is_same c coop || b
tried_by _ c b = b

unfoldable pub tried : List Entry → CoopId → Bool
tried [] c = false
tried (e ∷ h) c = tried_by e.kind c (tried h c)

-- main is to register it at the start, and has not tried
abbrev pub to_try : SceneParts → List Entry → ℕ → Option CoopId
to_try s h k = if (coop_of s (coop_number k)).at_start && not (tried h (coop_number k)) then Some (coop_number k) else None

-- main's next, the least of these
unfoldable pub next_coop : SceneParts → List Entry → Option CoopId
next_coop s h = first_below (to_try s h) (length s.coops)

-- main has tried all its registrations
abbrev pub all_tried : SceneParts → List Entry → Bool
all_tried s h = is_none (next_coop s h)

-- ---- the run

abbrev pub stopped_by : EntryKind → Bool → Bool
stopped_by (Stop cause) b = true
stopped_by _ b = b

-- a Stop was made
unfoldable pub stopped : List Entry → Bool
stopped [] = false
stopped (e ∷ h) = stopped_by e.kind (stopped h)

abbrev pub is_stop : Effect → Bool
is_stop effect.Stop = true
is_stop other = false

abbrev pub asks_stop : EntryKind → Bool
asks_stop (Act turn effect answer) = is_stop effect
asks_stop other = false

-- a turn asked for a stop
unfoldable pub stop_asked : List Entry → Bool
stop_asked [] = false
stop_asked (e ∷ h) = asks_stop e.kind || stop_asked h

abbrev pub is_left : EntryKind → Bool
is_left (Left coop) = true
is_left other = false

-- a cooperation has left
unfoldable pub some_left : List Entry → Bool
some_left [] = false
some_left (e ∷ h) = is_left e.kind || some_left h

-- cooperations came and went: main has tried all its registrations, one has left, and none is present
unfoldable pub all_gone : SceneParts → List Entry → Bool
all_gone s h = all_tried s h && (some_left h && is_empty (roster h))

abbrev pub aborts : EntryKind → Bool
aborts (Abort cause) = true
aborts other = false

-- the history ends in an abort
unfoldable pub aborted : List Entry → Bool
aborted [] = false
aborted (e ∷ h) = aborts e.kind

-- how all of them stand
abbrev pub standing : List Entry → Standing
standing h = record { present = present h; leaving = leaving h; mark = mark h; stopped = stopped h }
