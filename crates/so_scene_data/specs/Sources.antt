-- The bodies of an agent's code, each with the state or the row that it belongs to.
use Rattle.std.specs.Prelude.{ℕ, zero, suc, List, [], ◌∷◌, length, Option, if◌then◌else◌}
use Rattle.so_code.specs.declared.instr.Instr.{Instr}
use Rattle.so_code.specs.Bodies.{is_end}
use Rattle.so_state.specs.declared.choice.Row.{Row}
use Rattle.so_state.specs.declared.states.State.{State}
use Rattle.so_scene.specs.Checked.{has_handler}
use Rattle.so_scene.specs.declared.parts.AgentDef.{AgentDef}

-- the acts up to the next end
unfoldable pub acts_in : List Instr → List Instr
acts_in [] = []
acts_in (i ∷ code) = if is_end i then [] else i ∷ acts_in code

-- what stands behind that end
unfoldable pub behind : List Instr → List Instr
behind [] = []
behind (i ∷ code) = if is_end i then code else behind code

-- a state with its name and the acts of its handlers
pub record StateSource : Type 0 where
  pub name : List ℕ
  pub state : State
  pub enter : List Instr
  pub exit : List Instr

-- a row with its id and the acts of its handler
pub record RowSource : Type 0 where
  pub id : Option (List ℕ)
  pub row : Row
  pub acts : List Instr

abbrev pub state_source : List ℕ → State → List Instr → StateSource
state_source name state code = record { name = name; state = state; enter = acts_in code; exit = acts_in (behind code) }

-- states and the code that begins with their bodies
unfoldable pub states_in : List (List ℕ) → List State → List Instr → List StateSource
states_in [] states code = []
states_in (name ∷ names) [] code = []
states_in (name ∷ names) (state ∷ states) code = state_source name state code ∷ states_in names states (behind (behind code))

-- what stands behind the bodies of so many states
unfoldable pub behind_states : ℕ → List Instr → List Instr
behind_states zero code = code
behind_states (suc n) code = behind_states n (behind (behind code))

abbrev pub row_source : Option (List ℕ) → Row → List Instr → RowSource
row_source id row code = record { id = id; row = row; acts = if has_handler row.kind then acts_in code else [] }

-- what stands behind the body of a row, if it has one
abbrev pub behind_row : Row → List Instr → List Instr
behind_row row code = if has_handler row.kind then behind code else code

-- rows and the code that begins with their bodies
unfoldable pub rows_in : List (Option (List ℕ)) → List Row → List Instr → List RowSource
rows_in [] rows code = []
rows_in (id ∷ ids) [] code = []
rows_in (id ∷ ids) (row ∷ rows) code = row_source id row code ∷ rows_in ids rows (behind_row row code)

-- the acts of an agent's start and finish handlers, its states and its rows
abbrev pub start_acts : AgentDef → List Instr
start_acts a = acts_in a.code

abbrev pub finish_acts : AgentDef → List Instr
finish_acts a = acts_in (behind a.code)

abbrev pub states_of : AgentDef → List StateSource
states_of a = states_in a.state_names a.tree (behind (behind a.code))

abbrev pub rows_of : AgentDef → List RowSource
rows_of a = rows_in a.row_ids a.rows (behind_states (length a.tree) (behind (behind a.code)))
