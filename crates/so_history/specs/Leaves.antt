-- In which state an agent is: the last that it entered since its registration.
use Rattle.std.specs.Prelude.{List, [], ◌∷◌, Bool, ◌==◌, Option, unwrap_or, if◌then◌else◌}
use Rattle.so_ids.specs.Ids.{default_state}
use Rattle.so_ids.specs.declared.AgentId.{AgentId}
use Rattle.so_ids.specs.declared.CoopId.{CoopId}
use Rattle.so_ids.specs.declared.Place.{Place}
use Rattle.so_ids.specs.declared.StateId.{StateId}
use Rattle.so_ids.specs.declared.Plan.{Plan}
use Rattle.so_code.specs.declared.effect.Effect.{Effect}
use Rattle.so_code.specs.declared.effect.Effect.TheVariants as effect
use Rattle.so_code.specs.declared.effect.Answer.{Answer}
use Rattle.so_code.specs.declared.effect.Answer.TheVariants as answer
use Rattle.so_lists.specs.Lists.{head}
use Rattle.so_state.specs.Plan.{plan}
use Rattle.so_scene.specs.declared.parts.SceneParts.{SceneParts}
use Rattle.so_scene.specs.Parts.{agent_of, states_of}
use Rattle.so_history.specs.declared.entry.Entry.{Entry}
use Rattle.so_history.specs.declared.entry.EntryKind.{EntryKind}
use Rattle.so_history.specs.declared.entry.EntryKind.TheVariants.{Register, Act}
use Rattle.so_history.specs.Places.{entry_at, beginner_at}

-- the agent is one of the cooperation's
abbrev pub is_of : SceneParts → CoopId → AgentId → Bool
is_of s coop a = (agent_of s a).coop.0 == coop.0

-- the turn at a place is the agent's
abbrev pub is_turn_of : List Entry → Place → AgentId → Bool
is_turn_of h turn a = (beginner_at (entry_at h turn.0)).0 == a.0

-- an act enters a state for the turn's own agent, and a registration forgets what an agent of the cooperation has entered
abbrev pub leaves_by_effect : SceneParts → List Entry → Place → Effect → Answer → AgentId → List StateId → List StateId
leaves_by_effect s h turn (effect.SetState leaf) answer a leaves = if is_turn_of h turn a then leaf ∷ leaves else leaves
leaves_by_effect s h turn (effect.Register coop) answer.Okay a leaves = if is_of s coop a then [] else leaves
leaves_by_effect s h turn effect answer a leaves = leaves

abbrev pub leaves_by : SceneParts → List Entry → EntryKind → AgentId → List StateId → List StateId
leaves_by s h (Register coop) a leaves = if is_of s coop a then [] else leaves
leaves_by s h (Act turn effect answer) a leaves = leaves_by_effect s h turn effect answer a leaves
leaves_by s h other a leaves = leaves

-- the leaves that an agent has entered since its registration, the newest first
unfoldable pub leaves : SceneParts → List Entry → AgentId → List StateId
leaves s [] a = []
leaves s (e ∷ h) a = leaves_by s h e.kind a (leaves s h a)

-- the leaf that it is in: the default state, until it enters one
abbrev pub leaf_of : SceneParts → List Entry → AgentId → StateId
leaf_of s h a = unwrap_or (head (leaves s h a)) default_state

-- its switch to a state, none where the state stands for the leaf that it is in
abbrev pub switch_of : SceneParts → List Entry → AgentId → StateId → Option Plan
switch_of s h a to = plan (states_of s a) (leaves s h a) (leaf_of s h a) to
