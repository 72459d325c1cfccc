-- The cooperations of a run as a table, and what each call makes of it.
use Rattle.std.specs.Prelude.{◌<◌, ℕ, ◌+◌, ◌-◌, ◌==◌, List, length, replicate, slice_index_or, slice_set, Bool, true, false, not, ◌&&◌, Option, Some, None, is_none, Result, Ok, Err, if◌then◌else◌, count_by}
use Rattle.so_ids.specs.declared.AgentId.{AgentId}
use Rattle.so_ids.specs.declared.CoopId.{CoopId}
use Rattle.so_ids.specs.declared.Reason.{Reason}
use Rattle.so_ids.specs.declared.Refusal.{Refusal}
use Rattle.so_lists.specs.Lists.{first_below}
use Rattle.so_scene.specs.declared.parts.SceneParts.{SceneParts}
use Rattle.so_scene.specs.Parts.{agent_of, coop_of}
use Rattle.so_scene.specs.Cooperations.{Standing, coop_number, admission, has_child}
use Rattle.so_coop.specs.declared.coops.Coop.{Coop}

-- how each cooperation stands, by number
pub record CoopTable : Type 0 where
  pub scene : SceneParts
  pub coops : List Coop

abbrev pub IsCoopOf : SceneParts → CoopId → Type 0
IsCoopOf s c = c.0 < length s.coops

abbrev pub IsAgentOf : SceneParts → AgentId → Type 0
IsAgentOf s a = a.0 < length s.agents

-- the k-th agent of a cooperation
abbrev pub agent_at : SceneParts → CoopId → ℕ → AgentId
agent_at s c k = record { 0 = (coop_of s c).first.0 + k }

-- one that isn't registered, and one that was registered just now
abbrev pub absent : Coop
absent = record { present = false; leaving = false; mark = None; unfinished = 0 }

abbrev pub entered : Coop
entered = record { present = true; leaving = false; mark = None; unfinished = 0 }

abbrev pub nobody : SceneParts → CoopTable
nobody s = record { scene = s; coops = replicate (length s.coops) absent }

abbrev pub standing_at : CoopTable → CoopId → Coop
standing_at t c = slice_index_or t.coops c.0 absent

-- how they stand
abbrev pub standing : CoopTable → Bool → Standing
standing t stopped = record {
  present = λ c. (standing_at t c).present;
  leaving = λ c. (standing_at t c).leaving;
  mark = λ c. (standing_at t c).mark;
  stopped = stopped;
}

abbrev pub is_leaving : CoopTable → AgentId → Bool
is_leaving t a = (standing_at t (agent_of t.scene a).coop).leaving

abbrev pub is_present : Coop → Bool
is_present stands = stands.present

abbrev pub present : CoopTable → ℕ
present t = count_by is_present t.coops

-- ---- registration

-- refused for this cause, or registered where there is none
abbrev pub answer_to : Option Refusal → Result Unit Refusal
answer_to None = Ok tt
answer_to (Some cause) = Err cause

abbrev pub admit_answer : CoopTable → CoopId → Bool → Result Unit Refusal
admit_answer t c stopped = answer_to (admission t.scene (standing t stopped) c)

-- ---- changes

abbrev pub with_coop : CoopId → Coop → CoopTable → CoopTable
with_coop c stands t = record t { coops = slice_set t.coops c.0 stands }

abbrev pub after_enter : CoopId → CoopTable → CoopTable
after_enter c t = with_coop c entered t

-- it is present, and neither leaving nor marked
abbrev pub is_free : Coop → Bool
is_free stands = stands.present && (not stands.leaving && is_none stands.mark)

abbrev pub may_mark : CoopTable → CoopId → Bool
may_mark t c = is_free (standing_at t c)

abbrev pub marked : Reason → Coop → Coop
marked why stands = record stands { mark = Some why }

abbrev pub after_mark : CoopId → Reason → CoopTable → CoopTable
after_mark c why t = if may_mark t c then with_coop c (marked why (standing_at t c)) t else t

-- it leaves: the finish turn of each of its agents is still to come
abbrev pub begun_to_leave : ℕ → Coop → Coop
begun_to_leave agents stands = record stands { leaving = true; unfinished = agents }

abbrev pub after_leave_begin : CoopId → CoopTable → CoopTable
after_leave_begin c t = with_coop c (begun_to_leave (coop_of t.scene c).count (standing_at t c)) t

-- a finish turn of an agent is over
abbrev pub one_finished : Coop → Coop
one_finished stands = record stands { unfinished = stands.unfinished - 1 }

abbrev pub after_finished : AgentId → CoopTable → CoopTable
after_finished a t = with_coop (agent_of t.scene a).coop (one_finished (standing_at t (agent_of t.scene a).coop)) t

abbrev pub after_left : CoopId → CoopTable → CoopTable
after_left c t = with_coop c absent t

-- ---- who may leave for good

-- it is leaving, the finish turns of its agents are over, and it has no child
abbrev pub has_ended : CoopTable → CoopId → Bool
has_ended t c = (standing_at t c).leaving && (((standing_at t c).unfinished == 0) && not (has_child t.scene (standing t false) c))

-- the cooperation of a number where it has ended, and the least that has
abbrev pub ended_at : CoopTable → ℕ → Option CoopId
ended_at t k = if has_ended t (coop_number k) then Some (coop_number k) else None

abbrev pub left_next : CoopTable → Option CoopId
left_next t = first_below (ended_at t) (length t.scene.coops)
