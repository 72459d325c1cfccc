-- The five rules of a state tree. A fault is a rule with a state that breaks it.
use Rattle.std.specs.Prelude.{◌≡◌, ◌<◌, ◌≤◌, ◌⊎◌, ℕ, Bool, true, false, ◌&&◌, ◌==◌, not, nat_lt, nat_le, List, ◌++◌, length, map, find, count_by, Option, Some, None, Result, Ok, Err}
use Rattle.so_ids.specs.declared.StateId.{StateId}
use Rattle.so_state.specs.declared.states.State.{State}
use Rattle.so_state.specs.declared.faults.TreeFault.{TreeFault}
use Rattle.so_state.specs.declared.faults.TreeFault.TheVariants.{UnknownState, CycleOfParents, TooDeep, NoInitial, TwoInitials}
use Rattle.so_state.specs.States.{declared, is_declared, state_of, is_initial_of, is_composite, depth, is_below}

-- a parent is one of the list
abbrev pub is_known_parent : List State → Option StateId → Bool
is_known_parent states None = true
is_known_parent states (Some parent) = is_declared states parent

-- a limit's target is one of the list or `default`
abbrev pub is_known_limit : List State → Option (ℕ × StateId) → Bool
is_known_limit states None = true
is_known_limit states (Some limit) = nat_le (limit.1).0 (length states)

abbrev pub names_known_states : List State → Option State → Bool
names_known_states states None = true
names_known_states states (Some state) = is_known_parent states state.parent && is_known_limit states state.limit

-- how many initial substates
abbrev pub initials : List State → StateId → ℕ
initials states s = count_by (is_initial_of s) states

-- the state of this fault breaks its rule
abbrev pub breaks : List State → TreeFault → Bool
breaks states (UnknownState s) = not (names_known_states states (state_of states s))
breaks states (CycleOfParents s) = is_below states s s
breaks states (TooDeep s) = nat_lt 16 (depth states s)
breaks states (NoInitial s) = is_composite states s && (initials states s == 0)
breaks states (TwoInitials s) = nat_lt 1 (initials states s)

-- ---- the order of faults

-- the state that a fault names
abbrev pub named : TreeFault → StateId
named (UnknownState s) = s
named (CycleOfParents s) = s
named (TooDeep s) = s
named (NoInitial s) = s
named (TwoInitials s) = s

-- the place of its rule among the five
abbrev pub rule_of : TreeFault → ℕ
rule_of (UnknownState s) = 0
rule_of (CycleOfParents s) = 1
rule_of (TooDeep s) = 2
rule_of (NoInitial s) = 3
rule_of (TwoInitials s) = 4

-- of an earlier rule, or of the same rule at a lesser state
abbrev pub ComesBefore : TreeFault → TreeFault → Type 0
ComesBefore a b = (rule_of a < rule_of b) ⊎ ((rule_of a ≡ rule_of b) × ((named a).0 < (named b).0))

-- no fault of a declared state comes before this one
pub record IsFirstFault (states : List State) (fault : TreeFault) : Type 0 where
  pub names_declared : is_declared states (named fault) ≡ true
  pub broken : breaks states fault ≡ true
  pub first : (other : TreeFault) → is_declared states (named other) ≡ true → ComesBefore other fault → breaks states other ≡ false

-- ---- the check

-- every fault that a list could have: rule by rule, and under each rule by the state's number
abbrev pub possible_faults : List State → List TreeFault
possible_faults states =
    map UnknownState (declared states)
    ++ map CycleOfParents (declared states)
    ++ map TooDeep (declared states)
    ++ map NoInitial (declared states)
    ++ map TwoInitials (declared states)

-- the first of them that it has
unfoldable pub tree_fault : List State → Option TreeFault
tree_fault states = find (breaks states) (possible_faults states)

abbrev pub unless : List State → Option TreeFault → Result (List State) TreeFault
unless states None = Ok states
unless states (Some fault) = Err fault

-- the list itself, or its first fault
abbrev pub checked : List State → Result (List State) TreeFault
checked states = unless states (tree_fault states)

-- a list that breaks no rule
pub record IsTree (states : List State) : Type 0 where
  pub few : length states ≤ 63
  pub sound : tree_fault states ≡ None
