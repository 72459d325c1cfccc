-- Which entry is let through, and the ledger after that.
use Rattle.std.specs.Prelude.{◌<◌, ◌∷◌, length, ℕ, true, Option, Some, None, Result, Ok, Err, if◌then◌else◌}
use Rattle.std.specs.Option.{option_map}
use Rattle.so_ids.specs.declared.PartyId.{PartyId}
use Rattle.so_ids.specs.declared.LaneId.{LaneId}
use Rattle.so_code.specs.declared.effect.Effect.{Effect}
use Rattle.so_code.specs.declared.effect.Effect.TheVariants as effect
use Rattle.so_code.specs.declared.effect.Answer.{Answer}
use Rattle.so_code.specs.declared.effect.Answer.TheVariants as answer
use Rattle.so_scene.specs.declared.parts.SceneParts.{SceneParts}
use Rattle.so_scene.specs.Parts.{coop_of}
use Rattle.so_history.specs.declared.entry.Entry.{Entry}
use Rattle.so_history.specs.Units.{fits}
use Rattle.so_history.specs.Order.{pick, taking}
use Rattle.so_history.specs.Steps.{is_over}
use Rattle.so_ledger.specs.Shapes.{Core}
use Rattle.so_ledger.specs.declared.gate.Barred.{Barred}
use Rattle.so_ledger.specs.declared.gate.Barred.TheVariants.{Nothing, Full, Over}

-- the entry that may be added, where the step would add this one, or why none may
abbrev pub gated_entry : Core → Option Entry → Result Entry Barred
gated_entry k None = Err Nothing
gated_entry k (Some e) = if fits k.scene k.limit k.history e then Ok e else Err Full

-- in the order of the answers: the run is over, an earlier step didn't fit, there is no step, this one doesn't fit
unfoldable pub gated : Core → Option Entry → Result Entry Barred
gated k next = if is_over k.scene k.history then Err Over else (if k.full then Err Full else gated_entry k next)

-- the ledger after that
abbrev pub core_after : Core → Result Entry Barred → Core
core_after k (Ok e) = record k { history = e ∷ k.history }
core_after k (Err Full) = record k { full = true }
core_after k (Err Nothing) = k
core_after k (Err Over) = k

-- what may be taken on a lane
abbrev pub begin_by : Core → PartyId → LaneId → Option Entry
begin_by k by lane = option_map (λ d. record { by = by; kind = taking k.scene k.history lane d }) (pick k.scene k.history lane)

-- the cooperation that an effect registers is one of the scene's
abbrev pub NamesCoop : SceneParts → Effect → Type 0
NamesCoop s (effect.Register coop) = coop.0 < length s.coops
NamesCoop s other = Unit {0}

-- how many demands an act with this answer queues
abbrev pub queued_by_act : SceneParts → Effect → Answer → ℕ
queued_by_act s (effect.Register coop) answer.Okay = (coop_of s coop).count
queued_by_act s effect (answer.Sent sent) = sent.queued
queued_by_act s effect answer = 0
