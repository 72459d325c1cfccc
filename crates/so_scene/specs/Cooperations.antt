-- Which cooperations may be registered, which have a reason to leave, and which have children: by how they stand.
use Rattle.std.specs.Prelude.{ℕ, ◌+◌, List, length, take, slice_get, nat_le, Bool, false, not, ◌&&◌, ◌||◌, ◌==◌, Option, Some, None, if◌then◌else◌, count_by}
use Rattle.std.specs.List.{list_any}
use Rattle.std.specs.Option.{option_map, option_and_then}
use Rattle.so_ids.specs.declared.AgentId.{AgentId}
use Rattle.so_ids.specs.declared.CoopId.{CoopId}
use Rattle.so_ids.specs.declared.DispId.{DispId}
use Rattle.so_ids.specs.declared.Reason.{Reason}
use Rattle.so_ids.specs.declared.Reason.TheVariants as reason
use Rattle.so_ids.specs.declared.Refusal.{Refusal}
use Rattle.so_ids.specs.declared.Refusal.TheVariants as refusal
use Rattle.so_lists.specs.Lists.{is_empty, or_else, each_below, first_below}
use Rattle.so_scene.specs.declared.parts.SceneParts.{SceneParts}
use Rattle.so_scene.specs.Parts.{agent_of, agents_of, coop_of, disp_of}
use Rattle.so_scene.specs.Lanes.{agent_number, is_bound}
use Rattle.so_scene.specs.Definition.{definition_fault}

-- how the cooperations stand: which are present, which of these are leaving, which are marked to leave and why, and whether a
-- stop was made
pub record Standing : Type 0 where
  pub present : CoopId → Bool
  pub leaving : CoopId → Bool
  pub mark : CoopId → Option Reason
  pub stopped : Bool

abbrev pub coop_number : ℕ → CoopId
coop_number k = record { 0 = k }

-- ---- admission

-- its named parent isn't present or is leaving; for a child of the root, a stop was made
abbrev pub lacks_parent : Standing → Option CoopId → Bool
lacks_parent st None = st.stopped
lacks_parent st (Some parent) = not (st.present parent) || st.leaving parent

-- an agent of a present cooperation has a slot of its dispatcher
abbrev pub has_slot : SceneParts → Standing → DispId → AgentId → Bool
has_slot s st disp a = is_bound s disp a && st.present (agent_of s a).coop

-- how many slots of a dispatcher are taken
abbrev pub slots_taken : SceneParts → Standing → DispId → ℕ
slots_taken s st disp = count_by (has_slot s st disp) (each_below agent_number (length s.agents))

-- the slots of an agent's dispatcher are filled by agents of present cooperations and by these before it
abbrev pub lacks_slot : SceneParts → Standing → List AgentId → AgentId → Bool
lacks_slot s st before a =
    nat_le (disp_of s (agent_of s a).disp).slots (slots_taken s st (agent_of s a).disp + count_by (is_bound s (agent_of s a).disp) before)

-- the k-th agent of a cooperation, where it has no slot, and where it breaks a rule of definition
abbrev pub refused_slot : SceneParts → Standing → List AgentId → ℕ → Option Refusal
refused_slot s st agents k = option_and_then (λ a. if lacks_slot s st (take k agents) a then Some (refusal.Binding a) else None) (slice_get agents k)

abbrev pub refused_rule : SceneParts → List AgentId → ℕ → Option Refusal
refused_rule s agents k = option_and_then (λ a. option_map (refusal.Definition a) (definition_fault s a)) (slice_get agents k)

-- why a cooperation may not be registered, the first that holds. None where it may
abbrev pub admission : SceneParts → Standing → CoopId → Option Refusal
admission s st c =
    if is_empty (agents_of s c) then Some refusal.Empty else (
    if lacks_parent st (coop_of s c).parent then Some refusal.Parent else (
    if st.present c then Some refusal.Present else
    or_else (first_below (refused_slot s st (agents_of s c)) (length (agents_of s c)))
    (first_below (refused_rule s (agents_of s c)) (length (agents_of s c)))))

-- ---- leaving

-- its named parent is leaving
abbrev pub parent_leaves : Standing → Option CoopId → Bool
parent_leaves st None = false
parent_leaves st (Some parent) = st.leaving parent

-- the reason without a mark: the parent's leaving, else the stop
abbrev pub reason_unmarked : SceneParts → Standing → CoopId → Option Reason
reason_unmarked s st c = if parent_leaves st (coop_of s c).parent then Some reason.Parent else (if st.stopped then Some reason.Shutdown else None)

-- why a present cooperation is to leave, that isn't leaving yet
abbrev pub reason_of : SceneParts → Standing → CoopId → Option Reason
reason_of s st c = if st.present c && not (st.leaving c) then or_else (st.mark c) (reason_unmarked s st c) else None

-- the cooperation of a number with its reason, and the least that has one
abbrev pub with_reason : CoopId → Reason → CoopId × Reason
with_reason c why = (c, why)

abbrev pub leaving_at : SceneParts → Standing → ℕ → Option (CoopId × Reason)
leaving_at s st k = option_map (with_reason (coop_number k)) (reason_of s st (coop_number k))

abbrev pub leaving_next : SceneParts → Standing → Option (CoopId × Reason)
leaving_next s st = first_below (leaving_at s st) (length s.coops)

-- it is the named parent, if one is named
abbrev pub is_parent : CoopId → Option CoopId → Bool
is_parent c None = false
is_parent c (Some parent) = parent.0 == c.0

-- a present cooperation has it as named parent
abbrev pub is_child : SceneParts → Standing → CoopId → CoopId → Bool
is_child s st c child = st.present child && is_parent c (coop_of s child).parent

abbrev pub has_child : SceneParts → Standing → CoopId → Bool
has_child s st c = list_any (is_child s st c) (each_below coop_number (length s.coops))
