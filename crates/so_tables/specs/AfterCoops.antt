-- What an entry makes of the cooperations, and what it asks of them.
use Rattle.std.specs.Prelude.{◌≡◌, ◌<◌, Bool, true, false}
use Rattle.so_ids.specs.declared.AgentId.{AgentId}
use Rattle.so_ids.specs.declared.CoopId.{CoopId}
use Rattle.so_ids.specs.declared.Reason.TheVariants as reason
use Rattle.so_code.specs.declared.effect.Answer.{Answer}
use Rattle.so_code.specs.declared.effect.Answer.TheVariants as answer
use Rattle.so_code.specs.declared.effect.Effect.{Effect}
use Rattle.so_code.specs.declared.effect.Effect.TheVariants as effect
use Rattle.so_scene.specs.Parts.{agent_of}
use Rattle.so_history.specs.declared.entry.EntryKind.{EntryKind}
use Rattle.so_history.specs.declared.entry.EntryKind.TheVariants.{Register, Act, End, Leaving, Left}
use Rattle.so_coop.specs.Coops.{CoopTable, IsCoopOf, IsAgentOf, standing_at, after_enter, after_mark, after_leave_begin, after_left}
use Rattle.so_tables.specs.Tables.{finished_turn}
use Rattle.so_tables.specs.declared.found.Found.{Found}
use Rattle.so_tables.specs.declared.found.Found.TheVariants as what

-- ---- what an entry makes of them

abbrev pub after_act : Effect → Answer → CoopTable → CoopTable
after_act (effect.Register coop) answer.Okay t = after_enter coop t
after_act (effect.Deregister coop) said t = after_mark coop reason.Asked t
after_act other said t = t

abbrev pub after_end : Found → CoopTable → CoopTable
after_end (what.Turn x) t = finished_turn x.finishes x.agent t
after_end other t = t

abbrev pub after_entry : Found → EntryKind → CoopTable → CoopTable
after_entry found (Register coop) t = after_enter coop t
after_entry found (Act turn effect said) t = after_act effect said t
after_entry found (End turn) t = after_end found t
after_entry found (Leaving coop reason) t = after_leave_begin coop t
after_entry found (Left coop) t = after_left coop t
after_entry found other t = t

-- ---- what it asks of them

abbrev pub IsAbsent : CoopTable → CoopId → Type 0
IsAbsent t coop = IsCoopOf t.scene coop × ((standing_at t coop).present ≡ false)

abbrev pub MayAct : Effect → Answer → CoopTable → Type 0
MayAct (effect.Register coop) answer.Okay t = IsAbsent t coop
MayAct (effect.Deregister coop) said t = IsCoopOf t.scene coop
MayAct other said t = Unit {0}

abbrev pub MayFinish : Bool → AgentId → CoopTable → Type 0
MayFinish true agent t = IsAgentOf t.scene agent × (0 < (standing_at t (agent_of t.scene agent).coop).unfinished)
MayFinish false agent t = Unit {0}

abbrev pub MayEnd : Found → CoopTable → Type 0
MayEnd (what.Turn x) t = MayFinish x.finishes x.agent t
MayEnd other t = Unit {0}

abbrev pub MayAbsorb : Found → EntryKind → CoopTable → Type 0
MayAbsorb found (Register coop) t = IsAbsent t coop
MayAbsorb found (Act turn effect said) t = MayAct effect said t
MayAbsorb found (End turn) t = MayEnd found t
MayAbsorb found (Leaving coop reason) t = IsCoopOf t.scene coop
MayAbsorb found (Left coop) t = IsCoopOf t.scene coop
MayAbsorb found other t = Unit {0}
