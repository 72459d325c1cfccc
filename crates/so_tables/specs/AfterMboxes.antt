-- What an entry makes of the subscriptions, and what it asks of them.
use Rattle.std.specs.Prelude.{◌≡◌, ◌<◌, length, false, None, Ok}
use Rattle.std.specs.List.{All}
use Rattle.so_ids.specs.declared.AgentId.{AgentId}
use Rattle.so_ids.specs.declared.CoopId.{CoopId}
use Rattle.so_code.specs.declared.effect.Answer.{Answer}
use Rattle.so_code.specs.declared.effect.Answer.TheVariants as answer
use Rattle.so_code.specs.declared.effect.Effect.{Effect}
use Rattle.so_code.specs.declared.effect.Effect.TheVariants as effect
use Rattle.so_scene.specs.Definition.{filter_fault_of}
use Rattle.so_scene.specs.Parts.{agents_of, rows_of, filters_of}
use Rattle.so_scene.specs.Subscriptions.{filter_of}
use Rattle.so_history.specs.declared.entry.EntryKind.{EntryKind}
use Rattle.so_history.specs.declared.entry.EntryKind.TheVariants.{Register, Act, Left}
use Rattle.so_mbox.specs.Answers.{subscribe_answer}
use Rattle.so_mbox.specs.Table.{Subscriptions, IsAgentOf, is_entered, entered, departed, after_subscribe, after_unsubscribe, after_set_filter, after_drop_filter}
use Rattle.so_tables.specs.declared.found.Found.{Found}
use Rattle.so_tables.specs.declared.found.Found.TheVariants as what

-- ---- what an entry makes of them

abbrev pub all_entered : CoopId → Subscriptions → Subscriptions
all_entered coop t = entered (agents_of t.scene coop) t

abbrev pub all_departed : CoopId → Subscriptions → Subscriptions
all_departed coop t = departed (agents_of t.scene coop) t

-- an agent's act, by its answer
abbrev pub after_effect : AgentId → Effect → Answer → Subscriptions → Subscriptions
after_effect a (effect.Register coop) answer.Okay t = all_entered coop t
after_effect a (effect.Subscribe row) answer.Yes t = after_subscribe a row t
after_effect a (effect.Unsubscribe row) answer.Yes t = after_unsubscribe a row t
after_effect a (effect.SetFilter filter) answer.Yes t = after_set_filter a filter t
after_effect a (effect.DropFilter filter) answer.Yes t = after_drop_filter a filter t
after_effect a other said t = t

abbrev pub after_act : Found → Effect → Answer → Subscriptions → Subscriptions
after_act (what.Turn x) effect said t = after_effect x.agent effect said t
after_act other effect said t = t

abbrev pub after_entry : Found → EntryKind → Subscriptions → Subscriptions
after_entry found (Register coop) t = all_entered coop t
after_entry found (Act turn effect said) t = after_act found effect said t
after_entry found (Left coop) t = all_departed coop t
after_entry found other t = t

-- ---- what it asks of them

-- a cooperation whose agents are not registered
pub record MayEnter (coop : CoopId) (t : Subscriptions) : Type 0 where
  pub known : coop.0 < length t.scene.coops
  pub nobody : All (λ (a : AgentId). is_entered t a ≡ false) (agents_of t.scene coop)

abbrev pub MayEffect : AgentId → Effect → Answer → Subscriptions → Type 0
MayEffect a (effect.Register coop) answer.Okay t = MayEnter coop t
MayEffect a (effect.Subscribe row) answer.Yes t = IsAgentOf t.scene a × (row.0 < length (rows_of t.scene a)) × (subscribe_answer t a row ≡ Ok tt)
MayEffect a (effect.Unsubscribe row) answer.Yes t = IsAgentOf t.scene a × (row.0 < length (rows_of t.scene a))
MayEffect a (effect.SetFilter filter) answer.Yes t = IsAgentOf t.scene a × (filter.0 < length (filters_of t.scene a)) × (filter_fault_of t.scene (filter_of t.scene a filter) ≡ None)
MayEffect a (effect.DropFilter filter) answer.Yes t = IsAgentOf t.scene a × (filter.0 < length (filters_of t.scene a))
MayEffect a other said t = Unit {0}

abbrev pub MayAct : Found → Effect → Answer → Subscriptions → Type 0
MayAct (what.Turn x) effect said t = MayEffect x.agent effect said t
MayAct other effect said t = Unit {0}

abbrev pub MayAbsorb : Found → EntryKind → Subscriptions → Type 0
MayAbsorb found (Register coop) t = MayEnter coop t
MayAbsorb found (Act turn effect said) t = MayAct found effect said t
MayAbsorb found (Left coop) t = coop.0 < length t.scene.coops
MayAbsorb found other t = Unit {0}
