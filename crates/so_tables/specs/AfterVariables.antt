-- What an entry makes of the variables, and what it asks of them.
use Rattle.std.specs.Prelude.{◌<◌, List, length}
use Rattle.so_ids.specs.declared.Vars.{Vars}
use Rattle.so_code.specs.declared.effect.Answer.{Answer}
use Rattle.so_code.specs.declared.effect.Answer.TheVariants as answer
use Rattle.so_code.specs.declared.effect.Effect.{Effect}
use Rattle.so_code.specs.declared.effect.Effect.TheVariants as effect
use Rattle.so_scene.specs.declared.parts.SceneParts.{SceneParts}
use Rattle.so_scene.specs.Parts.{agents_of}
use Rattle.so_history.specs.declared.entry.EntryKind.{EntryKind}
use Rattle.so_history.specs.declared.entry.EntryKind.TheVariants.{Register, Act, End}
use Rattle.so_tables.specs.Tables.{set_back, brought_back}
use Rattle.so_tables.specs.declared.found.Found.{Found}
use Rattle.so_tables.specs.declared.found.Found.TheVariants as what

-- ---- what an entry makes of them

abbrev pub after_act : SceneParts → Effect → Answer → List Vars → List Vars
after_act s (effect.Register coop) answer.Okay t = set_back s (agents_of s coop) t
after_act s other said t = t

abbrev pub after_end : Found → List Vars → List Vars
after_end (what.Turn x) t = brought_back x.safe x.agent x.vars t
after_end other t = t

abbrev pub after_entry : SceneParts → Found → EntryKind → List Vars → List Vars
after_entry s found (Register coop) t = set_back s (agents_of s coop) t
after_entry s found (Act turn effect said) t = after_act s effect said t
after_entry s found (End turn) t = after_end found t
after_entry s found other t = t

-- ---- what it asks of them

abbrev pub MayAct : SceneParts → Effect → Answer → Type 0
MayAct s (effect.Register coop) answer.Okay = coop.0 < length s.coops
MayAct s other said = Unit {0}

abbrev pub MayEnd : SceneParts → Found → Type 0
MayEnd s (what.Turn x) = x.agent.0 < length s.agents
MayEnd s other = Unit {0}

abbrev pub MayAbsorb : SceneParts → Found → EntryKind → Type 0
MayAbsorb s found (Register coop) = coop.0 < length s.coops
MayAbsorb s found (Act turn effect said) = MayAct s effect said
MayAbsorb s found (End turn) = MayEnd s found
MayAbsorb s found other = Unit {0}
