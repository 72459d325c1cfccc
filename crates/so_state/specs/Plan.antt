-- Where a switch leads, and which states it leaves and enters. The leaves that an agent has entered are a
-- list with the newest first, as a history is.
use Rattle.std.specs.Prelude.{ℕ, zero, suc, ◌-◌, not, List, ◌++◌, length, Option, Some, None, if◌then◌else◌, find, filter, replicate, reverse, unwrap_or}
use Rattle.so_ids.specs.Ids.{default_state}
use Rattle.so_ids.specs.declared.StateId.{StateId}
use Rattle.so_ids.specs.declared.Plan.{Plan}
use Rattle.so_state.specs.declared.states.State.{State}
use Rattle.so_state.specs.declared.states.History.{History}
use Rattle.so_state.specs.declared.states.History.TheVariants.{None as NoHistory, Shallow, Deep}
use Rattle.so_state.specs.States.{same_state, is_this, is_on, parent_of, history_of, initial_of, path, is_below}

-- ---- the leaf that a state stands for

-- the leaf below s that was entered last
abbrev pub newest_below : List State → List StateId → StateId → Option StateId
newest_below states leaves s = find (is_below states s) leaves

-- the direct substate of s on the way down to a state below it
abbrev pub toward : List State → StateId → StateId → Option StateId
toward states s low = find (λ c. is_this s (parent_of states c)) (path states low)

-- from a composite state by its history, the leaf last entered below it and its initial substate
abbrev pub down_by : (StateId → StateId) → List State → StateId → History → Option StateId → StateId → StateId
down_by go states s Deep (Some low) initial = low
down_by go states s Shallow (Some low) initial = go (unwrap_or (toward states s low) initial)
down_by go states s Deep None initial = go initial
down_by go states s Shallow None initial = go initial
down_by go states s NoHistory newest initial = go initial

-- a state without an initial substate has no substate, and stands for itself
abbrev pub down : (StateId → StateId) → List State → StateId → Option StateId → Option StateId → StateId
down go states s newest None = s
down go states s newest (Some initial) = down_by go states s (history_of states s) newest initial

-- in at most n steps down, where `newest` gives the leaf last entered below a state
abbrev pub resolve_within : ℕ → List State → (StateId → Option StateId) → StateId → StateId
resolve_within zero states newest s = s
resolve_within (suc n) states newest s = down (resolve_within n states newest) states s (newest s) (initial_of states s)

abbrev pub resolve : List State → List StateId → StateId → StateId
resolve states leaves s = resolve_within (length states) states (newest_below states leaves) s

-- ---- the way there

-- the states from `from` upwards that neither are the leaf nor lie above it
abbrev pub exits : List State → StateId → StateId → List StateId
exits states from leaf = filter (λ s. not (is_on (path states leaf) s)) (path states from)

-- the states down to the leaf, the outermost first, that neither are `from` nor lie above it
abbrev pub enters : List State → StateId → StateId → List StateId
enters states from leaf = reverse (filter (λ s. not (is_on (path states from) s)) (path states leaf))

-- the states above both that are neither left nor entered
abbrev pub staying : List State → StateId → StateId → List StateId
staying states from leaf = filter (is_on (path states leaf)) (path states from)

-- sixteen places, the unused ones 0
abbrev pub padded : List StateId → List StateId
padded list = list ++ replicate (16 - length list) default_state

abbrev pub plan_of : StateId → List StateId → List StateId → Plan
plan_of leaf out into = record { leaf = leaf; exits = padded out; n_exits = length out; enters = padded into; n_enters = length into }

-- none where the leaf is the current one
abbrev pub plan_to : List State → StateId → StateId → Option Plan
plan_to states from leaf = if same_state leaf from then None else Some (plan_of leaf (exits states from leaf) (enters states from leaf))

abbrev pub plan : List State → List StateId → StateId → StateId → Option Plan
plan states leaves from to = plan_to states from (resolve states leaves to)
