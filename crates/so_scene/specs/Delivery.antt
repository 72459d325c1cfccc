-- What becomes of a message that is sent through a mbox: over who is registered, which rows and filters are active, and who
-- is leaving.
use Rattle.std.specs.Prelude.{ℤ, pos, ℕ, List, [], ◌∷◌, length, map, zip, slice_index_or, Bool, true, false, not, ◌&&◌, ◌==◌, None, if◌then◌else◌}
use Rattle.std.specs.List.{filter, list_any}
use Rattle.so_ids.specs.declared.AgentId.{AgentId}
use Rattle.so_ids.specs.declared.MboxId.{MboxId}
use Rattle.so_ids.specs.declared.MsgId.{MsgId}
use Rattle.so_ids.specs.declared.Payload.{Payload}
use Rattle.so_ids.specs.declared.Queued.{Queued}
use Rattle.so_ids.specs.declared.Sent.{Sent}
use Rattle.so_code.specs.Values.{holds}
use Rattle.so_state.specs.declared.choice.Row.{Row}
use Rattle.so_state.specs.Choice.{is_for}
use Rattle.so_scene.specs.declared.parts.FilterDef.{FilterDef}
use Rattle.so_scene.specs.declared.parts.SceneParts.{SceneParts}
use Rattle.so_scene.specs.Parts.{rows_of, filters_of}

-- ---- who receives

-- an active row for the type from the mbox
abbrev pub takes_from : MboxId → MsgId → Row × Bool → Bool
takes_from mbox msg row = row.1 && is_for mbox msg row.0

-- an agent with these active rows is subscribed
abbrev pub is_subscribed : SceneParts → MboxId → MsgId → AgentId → List Bool → Bool
is_subscribed s mbox msg a active = list_any (takes_from mbox msg) (zip (rows_of s a) active)

-- of the agents that are registered, in order, those with such a row
abbrev pub receivers_among : SceneParts → (AgentId → List Bool) → MboxId → MsgId → List AgentId → List AgentId
receivers_among s active mbox msg agents = filter (λ a. is_subscribed s mbox msg a (active a)) agents

-- ---- whose filter passes the message

abbrev pub field_of : Payload → ℕ → ℤ
field_of payload k = slice_index_or payload.fields k (pos 0)

abbrev pub lets_through : FilterDef → Payload → Bool
lets_through f payload = holds f.cmp (field_of payload f.field) f.value

-- the filter is for messages of the type from the mbox
abbrev pub is_filter_for : MboxId → MsgId → FilterDef → Bool
is_filter_for mbox msg f = (f.mbox.0 == mbox.0) && (f.msg.0 == msg.0)

-- an active filter for the message that refuses it
abbrev pub refuses : MboxId → MsgId → Payload → FilterDef × Bool → Bool
refuses mbox msg payload f = f.1 && (is_filter_for mbox msg f.0 && not (lets_through f.0 payload))

-- an agent with these active filters lets the message through
abbrev pub passes_with : SceneParts → MboxId → MsgId → Payload → AgentId → List Bool → Bool
passes_with s mbox msg payload a active = not (list_any (refuses mbox msg payload) (zip (filters_of s a) active))

-- ---- what becomes of it

-- for one receiver: refused by its filter, lost since its cooperation is leaving, or queued
pub data Outcome : Type 0 where
  filtered : Outcome
  closed : Outcome
  queued : Queued → Outcome

abbrev pub outcome_for : Bool → Bool → Queued → Outcome
outcome_for passes leaving event = if passes then if leaving then closed else queued event else filtered

-- for all receivers in order
abbrev pub outcomes : (AgentId → Bool) → (AgentId → Bool) → MboxId → MsgId → Payload → List AgentId → List Outcome
outcomes passes leaving mbox msg payload receivers =
    map (λ a. outcome_for (passes a) (leaving a) (record { agent = a; mbox = mbox; msg = msg; payload = payload })) receivers

-- the events that are queued, in order
abbrev pub events : List Outcome → List Queued
events [] = []
events (queued event ∷ rest) = event ∷ events rest
events (filtered ∷ rest) = events rest
events (closed ∷ rest) = events rest

abbrev pub is_lost : Outcome → Bool
is_lost closed = true
is_lost filtered = false
is_lost (queued event) = false

-- what the sender is told
abbrev pub sent_of : List Outcome → Sent
sent_of list = record { queued = length (events list); lost = length (filter is_lost list); logged = 0; first = None }
