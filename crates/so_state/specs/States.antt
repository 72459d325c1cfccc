-- States and their hierarchy, over the list of the declared states. The first of the list is state 1,
-- the second state 2; state 0 is `default`, which no list holds. Each definition has a value at every
-- number: a state that is not declared has no parent, no history and no time limit.
use Rattle.std.specs.Prelude.{ℕ, zero, suc, ◌+◌, Bool, false, ◌&&◌, ◌==◌, not, nat_lt, nat_le, List, [], ◌∷◌, length, slice_get, Option, Some, None, map, position}
use Rattle.std.specs.List.{list_any, range_with_len}
use Rattle.std.specs.Option.{option_map, option_and_then, option_map_or}
use Rattle.so_ids.specs.declared.StateId.{StateId}
use Rattle.so_state.specs.declared.states.State.{State}
use Rattle.so_state.specs.declared.states.History.{History}
use Rattle.so_state.specs.declared.states.History.TheVariants.{None as NoHistory}

abbrev pub same_state : StateId → StateId → Bool
same_state a b = a.0 == b.0

-- there is another state, and it is s
abbrev pub is_this : StateId → Option StateId → Bool
is_this s None = false
is_this s (Some other) = same_state other s

-- the list holds s
abbrev pub is_on : List StateId → StateId → Bool
is_on list s = list_any (same_state s) list

-- ---- the declared states

-- the state that the element k of the list, from 0, declares
abbrev pub number_of : ℕ → StateId
number_of k = record { 0 = k + 1 }

-- the declared states, in order of their numbers
abbrev pub declared : List State → List StateId
declared states = map number_of (range_with_len 0 (length states))

abbrev pub is_declared : List State → StateId → Bool
is_declared states s = nat_lt 0 s.0 && nat_le s.0 (length states)

abbrev pub state_numbered : List State → ℕ → Option State
state_numbered states zero = None
state_numbered states (suc k) = slice_get states k

-- what was declared of a state, if it was
abbrev pub state_of : List State → StateId → Option State
state_of states s = state_numbered states s.0

abbrev pub parent_of : List State → StateId → Option StateId
parent_of states s = option_and_then (λ state. state.parent) (state_of states s)

abbrev pub history_of : List State → StateId → History
history_of states s = option_map_or (λ state. state.history) (state_of states s) NoHistory

-- milliseconds, and the state to switch to
abbrev pub limit_of : List State → StateId → Option (ℕ × StateId)
limit_of states s = option_and_then (λ state. state.limit) (state_of states s)

-- ---- below

abbrev pub is_substate_of : StateId → State → Bool
is_substate_of s state = is_this s state.parent

abbrev pub is_initial_of : StateId → State → Bool
is_initial_of s state = is_substate_of s state && state.initial

-- a composite state has substates, a leaf has none
abbrev pub is_composite : List State → StateId → Bool
is_composite states s = list_any (is_substate_of s) states

abbrev pub is_leaf : List State → StateId → Bool
is_leaf states s = not (is_composite states s)

abbrev pub initial_of : List State → StateId → Option StateId
initial_of states s = option_map number_of (position (is_initial_of s) states)

-- ---- above

abbrev pub and_above : (StateId → List StateId) → Option StateId → List StateId
and_above above None = []
and_above above (Some parent) = parent ∷ above parent

-- at most n ancestors, the parent first
abbrev pub ancestors_within : ℕ → List State → StateId → List StateId
ancestors_within zero states s = []
ancestors_within (suc n) states s = and_above (ancestors_within n states) (parent_of states s)

-- the ancestors, from inner to outer: where no state is its own ancestor, there are fewer than states
abbrev pub ancestors : List State → StateId → List StateId
ancestors states s = ancestors_within (length states) states s

-- the state and its ancestors, from inner to outer
abbrev pub path : List State → StateId → List StateId
path states s = s ∷ ancestors states s

-- 1 at the top
abbrev pub depth : List State → StateId → ℕ
depth states s = length (path states s)

-- low lies below high
abbrev pub is_below : List State → StateId → StateId → Bool
is_below states high low = is_on (ancestors states low) high

-- low is high or lies below it, so that an agent in the leaf `low` is in the state `high`
abbrev pub is_or_below : List State → StateId → StateId → Bool
is_or_below states high low = is_on (path states low) high
