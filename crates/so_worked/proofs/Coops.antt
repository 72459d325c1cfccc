-- Registrations, marks and leavings of five cooperations.
use Rattle.std.proofs.Common.{◌≡◌, ℕ, true, false, List, [], ◌∷◌, Option, Some, None, refl}
use Rattle.std.specs.Prelude.{Ok, Err, map}
use Rattle.so_ids.specs.declared.CoopId.{CoopId}
use Rattle.so_ids.specs.declared.Reason.{Reason}
use Rattle.so_ids.specs.declared.Reason.TheVariants as why
use Rattle.so_ids.specs.declared.Refusal.TheVariants as refusal
use Rattle.so_code.specs.declared.instr.Instr.{Instr}
use Rattle.so_code.specs.declared.instr.Instr.TheVariants.{End}
use Rattle.so_code.specs.declared.instr.Body.TheVariants.{Start, Finish}
use Rattle.so_lists.specs.Lists.{each_below}
use Rattle.so_scene.specs.declared.parts.AgentDef.{AgentDef}
use Rattle.so_scene.specs.declared.parts.CoopDef.{CoopDef}
use Rattle.so_scene.specs.declared.parts.DispDef.{DispDef}
use Rattle.so_scene.specs.declared.parts.DispKind.TheVariants.{ThreadPool}
use Rattle.so_scene.specs.declared.parts.SceneParts.{SceneParts}
use Rattle.so_scene.specs.Parts.{no_agent, default_disp}
use Rattle.so_scene.specs.Definition.{definition_fault}
use Rattle.so_scene.specs.Cooperations.{leaving_next}
use Rattle.so_coop.specs.Coops.{CoopTable, nobody, standing, standing_at, is_leaving, present, admit_answer, may_mark, after_enter, after_mark, after_leave_begin, after_finished, after_left, left_next}

-- ---- the scene

-- no act
abbrev pub idle_code : List Instr
idle_code = End Start ∷ End Finish ∷ []

abbrev agent : List ℕ → ℕ → ℕ → AgentDef
agent name coop disp = record no_agent { name = name; coop = record { 0 = coop }; disp = record { 0 = disp }; code = idle_code }

abbrev coop : List ℕ → Option CoopId → ℕ → ℕ → CoopDef
coop name parent first count = record { name = name; parent = parent; at_start = true; first = record { 0 = first }; count = count }

-- a pool of one slot
abbrev pool : DispDef
pool = record default_disp { name = 100 ∷ []; kind = ThreadPool; slots = 1 }

abbrev parent : CoopId
parent = record { 0 = 0 }

abbrev child : CoopId
child = record { 0 = 1 }

abbrev big : CoopId
big = record { 0 = 2 }

abbrev small : CoopId
small = record { 0 = 3 }

abbrev empty : CoopId
empty = record { 0 = 4 }

-- a parent of agent 0 and its child of agent 1; a big one, of agents 2 and 3, and a small one, of agent 4, on the pool; and an empty one
abbrev family : SceneParts
family = record {
  messages = [];
  mboxes = [];
  dispatchers = default_disp ∷ pool ∷ [];
  groups = [] ∷ [] ∷ [];
  coops = coop (112 ∷ []) None 0 1 ∷ coop (99 ∷ []) (Some parent) 1 1 ∷ coop (98 ∷ []) None 2 2 ∷ coop (115 ∷ []) None 4 1 ∷ coop (101 ∷ []) None 5 0 ∷ [];
  agents = agent (117 ∷ []) 0 0 ∷ agent (118 ∷ []) 1 0 ∷ agent (120 ∷ []) 2 1 ∷ agent (121 ∷ []) 2 1 ∷ agent (122 ∷ []) 3 1 ∷ [];
  texts = [];
  autoshutdown = true;
}

abbrev none : CoopTable
none = nobody family

-- ---- registrations

-- the last: the first agent of the big one takes the slot, and its second has none; beside the small one its first has none
a_registration_is_refused_for_the_first_cause :
    (
    admit_answer none parent false
    ∷ admit_answer none empty false
    ∷ admit_answer none child false
    ∷ admit_answer (after_enter parent none) child false
    ∷ admit_answer (after_enter parent none) parent false
    ∷ admit_answer (after_leave_begin parent (after_enter parent none)) child false
    ∷ admit_answer none small false
    ∷ admit_answer (after_left small (after_enter small none)) small false
    ∷ admit_answer none big false
    ∷ admit_answer (after_enter small none) big false
    ∷ [])
    ≡ (
    Ok tt
    ∷ Err refusal.Empty
    ∷ Err refusal.Parent
    ∷ Ok tt
    ∷ Err refusal.Present
    ∷ Err refusal.Parent
    ∷ Ok tt
    ∷ Ok tt
    ∷ Err (refusal.Binding (record { 0 = 3 }))
    ∷ Err (refusal.Binding (record { 0 = 2 }))
    ∷ [])
unfolding each_below definition_fault
a_registration_is_refused_for_the_first_cause = refl

a_stop_refuses_the_children_of_the_root :
    (
    admit_answer none empty true
    ∷ admit_answer none parent true
    ∷ admit_answer (after_enter parent none) parent true
    ∷ admit_answer (after_enter parent none) child true
    ∷ [])
    ≡ (Err refusal.Empty ∷ Err refusal.Parent ∷ Err refusal.Parent ∷ Ok tt ∷ [])
unfolding each_below definition_fault
a_stop_refuses_the_children_of_the_root = refl

-- ---- leaving

-- what may be asked of a table: which cooperation is to leave and why, which has left, and how many are present
abbrev asked : CoopTable → Option (CoopId × Reason) × Option CoopId × ℕ
asked t = (leaving_next t.scene (standing t false), left_next t, present t)

abbrev both : CoopTable
both = after_enter child (after_enter parent none)

abbrev parent_marked : CoopTable
parent_marked = after_mark parent why.Exception both

abbrev parent_leaves : CoopTable
parent_leaves = after_leave_begin parent parent_marked

abbrev child_marked : CoopTable
child_marked = after_mark child why.Asked parent_leaves

abbrev both_leave : CoopTable
both_leave = after_leave_begin child child_marked

abbrev parent_finished : CoopTable
parent_finished = after_finished (record { 0 = 0 }) both_leave

abbrev both_finished : CoopTable
both_finished = after_finished (record { 0 = 1 }) parent_finished

abbrev child_left : CoopTable
child_left = after_left child both_finished

-- a second mark leaves the first as it is; the parent's agent is done long before its child is gone
a_parent_leaves_after_its_child :
    map asked (
    after_mark parent why.Asked none
    ∷ after_enter parent none
    ∷ both
    ∷ parent_marked
    ∷ after_mark parent why.Asked parent_marked
    ∷ parent_leaves
    ∷ child_marked
    ∷ both_leave
    ∷ parent_finished
    ∷ both_finished
    ∷ child_left
    ∷ after_left parent child_left
    ∷ [])
    ≡ (
    (None, None, 0)
    ∷ (None, None, 1)
    ∷ (None, None, 2)
    ∷ (Some (parent, why.Exception), None, 2)
    ∷ (Some (parent, why.Exception), None, 2)
    ∷ (Some (child, why.Parent), None, 2)
    ∷ (Some (child, why.Asked), None, 2)
    ∷ (None, None, 2)
    ∷ (None, None, 2)
    ∷ (None, Some child, 2)
    ∷ (None, Some parent, 1)
    ∷ (None, None, 0)
    ∷ [])
unfolding each_below
a_parent_leaves_after_its_child = refl

-- how many finish turns of a cooperation are still to come
abbrev unfinished : CoopId → CoopTable → ℕ
unfinished c t = (standing_at t c).unfinished

abbrev big_leaves : CoopTable
big_leaves = after_leave_begin big (after_enter big none)

-- turns are counted, and not agents: after a second one of the first of two none is to come, and none after a second one of an only
finish_turns_are_counted_down_to_none :
    (map (unfinished big) (big_leaves ∷ after_finished (record { 0 = 2 }) big_leaves ∷ after_finished (record { 0 = 2 }) (after_finished (record { 0 = 2 }) big_leaves) ∷ []) ≡ 2 ∷ 1 ∷ 0 ∷ [])
    × (map (unfinished parent) (both_leave ∷ parent_finished ∷ after_finished (record { 0 = 0 }) parent_finished ∷ []) ≡ 1 ∷ 0 ∷ 0 ∷ [])
finish_turns_are_counted_down_to_none = (refl, refl)

only_a_present_one_is_marked_and_once :
    (may_mark none parent ∷ may_mark both parent ∷ may_mark parent_marked parent ∷ may_mark parent_leaves parent ∷ may_mark parent_leaves child ∷ [])
    ≡ (false ∷ true ∷ false ∷ false ∷ true ∷ [])
only_a_present_one_is_marked_and_once = refl

-- the small one, and then the parent
abbrev two : CoopTable
two = after_enter parent (after_enter small none)

abbrev stopped_next : CoopTable → Option (CoopId × Reason)
stopped_next t = leaving_next t.scene (standing t true)

after_a_stop_all_leave_from_the_least_on :
    (stopped_next two ∷ stopped_next (after_leave_begin parent two) ∷ []) ≡ (Some (parent, why.Shutdown) ∷ Some (small, why.Shutdown) ∷ [])
after_a_stop_all_leave_from_the_least_on = refl

an_agent_leaves_with_its_cooperation :
    (is_leaving (after_leave_begin parent two) (record { 0 = 0 }) ∷ is_leaving (after_leave_begin parent two) (record { 0 = 4 }) ∷ []) ≡ (true ∷ false ∷ [])
an_agent_leaves_with_its_cooperation = refl
