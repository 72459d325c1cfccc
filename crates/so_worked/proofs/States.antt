-- Trees of states, the faults that they may have, switches, and the row that answers an event.
use Rattle.std.proofs.Common.{◌≡◌, ℕ, true, false, List, [], ◌∷◌, ◌++◌, Option, Some, None, refl}
use Rattle.std.specs.Prelude.{map, length, reverse}
use Rattle.std.specs.List.{range_with_len}
use Rattle.so_ids.specs.declared.StateId.{StateId}
use Rattle.so_ids.specs.declared.Plan.{Plan}
use Rattle.so_ids.specs.declared.Chosen.{Chosen}
use Rattle.so_ids.specs.declared.Chosen.TheVariants as chose
use Rattle.so_state.specs.declared.states.State.{State}
use Rattle.so_state.specs.declared.states.History.{History}
use Rattle.so_state.specs.declared.states.History.TheVariants.{None as NoHistory, Shallow, Deep}
use Rattle.so_state.specs.declared.choice.Row.{Row}
use Rattle.so_state.specs.declared.choice.RowKind.{RowKind}
use Rattle.so_state.specs.declared.choice.RowKind.TheVariants as kind
use Rattle.so_state.specs.declared.faults.TreeFault.TheVariants.{UnknownState, CycleOfParents, TooDeep, NoInitial, TwoInitials}
use Rattle.so_state.specs.Fault.{tree_fault}
use Rattle.so_state.specs.States.{declared, state_of, parent_of, history_of, limit_of, initial_of, is_leaf, is_or_below, path}
use Rattle.so_state.specs.Plan.{plan, plan_of}
use Rattle.so_state.specs.Choice.{chosen, row_in, dead_row}

abbrev state : ℕ → StateId
state n = record { 0 = n }

-- a state at the top, the initial substate of a state, and another substate of it
abbrev top : State
top = record { parent = None; initial = false; history = NoHistory; limit = None }

abbrev first_in : ℕ → State
first_in p = record top { parent = Some (state p); initial = true }

abbrev in_ : ℕ → State
in_ p = record top { parent = Some (state p) }

abbrev timed : ℕ → ℕ → State
timed ms to = record top { limit = Some (ms, state to) }

-- ---- faults

-- the first rule that is broken is named, at the least state that breaks it
the_first_rule_and_the_least_state_are_named :
    map tree_fault (
    []
    ∷ (timed 5 0 ∷ [])
    ∷ (in_ 3 ∷ [])
    ∷ (in_ 0 ∷ [])
    ∷ (timed 5 2 ∷ [])
    ∷ (first_in 2 ∷ first_in 1 ∷ [])
    ∷ (top ∷ in_ 1 ∷ [])
    ∷ (top ∷ first_in 1 ∷ first_in 1 ∷ [])
    ∷ (first_in 2 ∷ first_in 1 ∷ in_ 9 ∷ [])
    ∷ (top ∷ first_in 1 ∷ first_in 1 ∷ top ∷ in_ 4 ∷ [])
    ∷ (top ∷ in_ 1 ∷ top ∷ in_ 3 ∷ [])
    ∷ [])
    ≡ (
    None
    ∷ None
    ∷ Some (UnknownState (state 1))
    ∷ Some (UnknownState (state 1))
    ∷ Some (UnknownState (state 1))
    ∷ Some (CycleOfParents (state 1))
    ∷ Some (NoInitial (state 1))
    ∷ Some (TwoInitials (state 1))
    ∷ Some (UnknownState (state 3))
    ∷ Some (NoInitial (state 4))
    ∷ Some (NoInitial (state 1))
    ∷ [])
unfolding tree_fault
the_first_rule_and_the_least_state_are_named = refl

-- n + 1 states, each but the first the initial substate of the one before
abbrev nested : ℕ → List State
nested n = top ∷ map first_in (range_with_len 1 n)

sixteen_states_may_be_nested_and_no_more : map tree_fault (nested 15 ∷ nested 16 ∷ []) ≡ (None ∷ Some (TooDeep (state 17)) ∷ [])
unfolding tree_fault
sixteen_states_may_be_nested_and_no_more = refl

-- ---- switches

-- a = 1 with this history, a1 = 2 and a2 = 3 in a, a21 = 4 and a22 = 5 in a2, and z = 6
abbrev two_levels : History → List State
two_levels h = record top { history = h } ∷ first_in 1 ∷ in_ 1 ∷ first_in 3 ∷ in_ 3 ∷ timed 750 1 ∷ []

-- a switch between two states, after these leaves were entered, the newest first
abbrev switch : History → List StateId → ℕ → ℕ → Option Plan
switch h leaves from to = plan (two_levels h) leaves (state from) (state to)

-- to a at the start; between the leaves of a2; to where it is; out of a; and back to a after it
abbrev switches : History → List (Option Plan)
switches h =
    switch h [] 0 1
    ∷ switch h (state 4 ∷ []) 4 5
    ∷ switch h (state 5 ∷ state 4 ∷ []) 5 5
    ∷ switch h (state 5 ∷ state 4 ∷ []) 5 6
    ∷ switch h (state 6 ∷ state 5 ∷ state 4 ∷ []) 6 1
    ∷ []

abbrev before_back : List (Option Plan)
before_back =
    Some (plan_of (state 2) (state 0 ∷ []) (state 1 ∷ state 2 ∷ []))
    ∷ Some (plan_of (state 5) (state 4 ∷ []) (state 5 ∷ []))
    ∷ None
    ∷ Some (plan_of (state 6) (state 5 ∷ state 3 ∷ state 1 ∷ []) (state 6 ∷ []))
    ∷ []

a_switch_goes_by_the_history :
    map switches (NoHistory ∷ Shallow ∷ Deep ∷ [])
    ≡ (
    (before_back ++ Some (plan_of (state 2) (state 6 ∷ []) (state 1 ∷ state 2 ∷ [])) ∷ [])
    ∷ (before_back ++ Some (plan_of (state 4) (state 6 ∷ []) (state 1 ∷ state 3 ∷ state 4 ∷ [])) ∷ [])
    ∷ (before_back ++ Some (plan_of (state 5) (state 6 ∷ []) (state 1 ∷ state 3 ∷ state 5 ∷ [])) ∷ [])
    ∷ [])
a_switch_goes_by_the_history = refl

-- ---- what a tree tells of its states

-- the path from inner to outer, and down
a_state_has_its_parent_and_its_path :
    (state_of (two_levels Deep) (state 4) ≡ Some (first_in 3)) × (parent_of (two_levels Deep) (state 4) ≡ Some (state 3)) × (path (two_levels Deep) (state 5) ≡ state 5 ∷ state 3 ∷ state 1 ∷ []) × (reverse (path (two_levels Deep) (state 5)) ≡ state 1 ∷ state 3 ∷ state 5 ∷ [])
a_state_has_its_parent_and_its_path = (refl, refl, refl, refl)

a_state_has_its_initial_substate_its_history_and_its_limit :
    (initial_of (two_levels Deep) (state 3) ≡ Some (state 4)) × (history_of (two_levels Deep) (state 1) ≡ Deep) × (limit_of (two_levels Deep) (state 6) ≡ Some (750, state 1))
a_state_has_its_initial_substate_its_history_and_its_limit = (refl, refl, refl)

a_leaf_lies_below_what_is_above_it : (is_leaf (two_levels Deep) (state 5) ≡ true) × (is_or_below (two_levels Deep) (state 1) (state 5) ≡ true)
a_leaf_lies_below_what_is_above_it = (refl, refl)

a_tree_has_its_states_in_order_of_number :
    (length (two_levels Deep) ≡ 6) × (declared (two_levels Deep) ≡ state 1 ∷ state 2 ∷ state 3 ∷ state 4 ∷ state 5 ∷ state 6 ∷ []) × (map (state_of (two_levels Deep)) (declared (two_levels Deep)) ≡ map Some (two_levels Deep))
a_tree_has_its_states_in_order_of_number = (refl, refl, refl)

-- the tree of an agent that declares no state, which is empty as no other is
a_flat_tree_has_only_the_default_state : (declared [] ≡ []) × (state_of [] (state 0) ≡ None) × (is_leaf [] (state 0) ≡ true) × (path [] (state 0) ≡ state 0 ∷ []) × (two_levels Deep ≡ [] → ⊥)
a_flat_tree_has_only_the_default_state = (refl, refl, refl, refl, λ e. cc)

-- ---- choices

abbrev row : ℕ → ℕ → RowKind → Row
row msg s k = record { mbox = record { 0 = 7 }; msg = record { 0 = msg }; state = state s; kind = k; safe = false; active = true }

abbrev rows : List Row
rows =
    row 0 3 kind.Run
    ∷ row 0 5 kind.Suppress
    ∷ row 1 0 kind.Dead
    ∷ row 1 1 (kind.Transfer (state 6))
    ∷ row 2 5 (kind.Switch (state 6))
    ∷ row 3 5 kind.Run
    ∷ []

-- the last row isn't active
abbrev answer : ℕ → ℕ → ℕ → Chosen
answer leaf mbox msg = chosen (two_levels NoHistory) rows (true ∷ true ∷ true ∷ true ∷ true ∷ false ∷ []) (state leaf) (record { 0 = mbox }) (record { 0 = msg })

the_row_of_the_nearest_state_is_chosen :
    (answer 5 7 0 ∷ answer 4 7 0 ∷ answer 5 7 1 ∷ answer 6 7 1 ∷ answer 5 7 2 ∷ answer 4 7 2 ∷ answer 5 7 3 ∷ answer 5 8 0 ∷ [])
    ≡ (
    chose.Suppressed
    ∷ chose.Run (record { 0 = 0 })
    ∷ chose.Transfer (state 1) (state 6)
    ∷ chose.Dead (record { 0 = 2 })
    ∷ chose.Switch (state 6)
    ∷ chose.Nothing
    ∷ chose.Nothing
    ∷ chose.Nothing
    ∷ [])
unfolding row_in dead_row
the_row_of_the_nearest_state_is_chosen = refl
