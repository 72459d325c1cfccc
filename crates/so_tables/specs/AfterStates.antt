-- What an entry makes of how the agents stand, and what it asks of that.
use Rattle.std.specs.Prelude.{◌+◌, ◌<◌, List, length}
use Rattle.so_ids.specs.declared.AgentId.{AgentId}
use Rattle.so_ids.specs.declared.CoopId.{CoopId}
use Rattle.so_ids.specs.declared.StateId.{StateId}
use Rattle.so_code.specs.declared.effect.Answer.{Answer}
use Rattle.so_code.specs.declared.effect.Answer.TheVariants as answer
use Rattle.so_code.specs.declared.effect.Effect.{Effect}
use Rattle.so_code.specs.declared.effect.Effect.TheVariants as effect
use Rattle.so_scene.specs.declared.parts.SceneParts.{SceneParts}
use Rattle.so_scene.specs.Parts.{coop_of}
use Rattle.so_history.specs.declared.entry.EntryKind.{EntryKind}
use Rattle.so_history.specs.declared.entry.EntryKind.TheVariants.{Register, Act}
use Rattle.so_tables.specs.States.{with_none, with_entered}
use Rattle.so_tables.specs.declared.found.Found.{Found}
use Rattle.so_tables.specs.declared.found.Found.TheVariants as what

-- ---- what an entry makes of the leaves that each agent has entered

abbrev pub set_none : SceneParts → CoopId → (AgentId → List StateId) → AgentId → List StateId
set_none s coop leaves = with_none (coop_of s coop).first.0 ((coop_of s coop).first.0 + (coop_of s coop).count) leaves

abbrev pub after_state : Found → StateId → (AgentId → List StateId) → AgentId → List StateId
after_state (what.Turn x) leaf leaves = with_entered x.agent leaf leaves
after_state other leaf leaves = leaves

abbrev pub after_act : SceneParts → Found → Effect → Answer → (AgentId → List StateId) → AgentId → List StateId
after_act s found (effect.Register coop) answer.Okay leaves = set_none s coop leaves
after_act s found (effect.SetState leaf) said leaves = after_state found leaf leaves
after_act s found other said leaves = leaves

abbrev pub after_entry : SceneParts → Found → EntryKind → (AgentId → List StateId) → AgentId → List StateId
after_entry s found (Register coop) leaves = set_none s coop leaves
after_entry s found (Act turn effect said) leaves = after_act s found effect said leaves
after_entry s found other leaves = leaves

-- ---- what it asks for

abbrev pub MayState : SceneParts → Found → Type 0
MayState s (what.Turn x) = x.agent.0 < length s.agents
MayState s other = Unit {0}

abbrev pub MayAct : SceneParts → Found → Effect → Answer → Type 0
MayAct s found (effect.Register coop) answer.Okay = coop.0 < length s.coops
MayAct s found (effect.SetState leaf) said = MayState s found
MayAct s found other said = Unit {0}

abbrev pub MayAbsorb : SceneParts → Found → EntryKind → Type 0
MayAbsorb s found (Register coop) = coop.0 < length s.coops
MayAbsorb s found (Act turn effect said) = MayAct s found effect said
MayAbsorb s found other = Unit {0}
