-- What becomes of one delivery, over the subscriptions and the cooperations now.
use Rattle.std.specs.Prelude.{ℕ, List, []}
use Rattle.so_ids.specs.declared.MboxId.{MboxId}
use Rattle.so_ids.specs.declared.MsgId.{MsgId}
use Rattle.so_ids.specs.declared.Payload.{Payload}
use Rattle.so_ids.specs.declared.Queued.{Queued}
use Rattle.so_ids.specs.declared.Target.{Target}
use Rattle.so_ids.specs.declared.Target.TheVariants.{Mbox, Chain}
use Rattle.so_scene.specs.Delivery.{Outcome, outcomes}
use Rattle.so_coop.specs.Coops.{CoopTable, is_leaving}
use Rattle.so_mbox.specs.Table.{Subscriptions, receivers, passes}

-- the events that a delivery queues, and for how many there is room
pub record OutcomeTable : Type 0 where
  pub queued : List Queued
  pub room : ℕ

abbrev pub no_outcomes : ℕ → OutcomeTable
no_outcomes room = record { queued = []; room = room }

abbrev pub with_queued : List Queued → OutcomeTable → OutcomeTable
with_queued queued all = record all { queued = queued }

-- the message is lost to those whose own cooperation is leaving
abbrev pub outcomes_of : Subscriptions → CoopTable → MboxId → MsgId → Payload → List Outcome
outcomes_of t coops mbox msg payload = outcomes (passes t mbox msg payload) (is_leaving coops) mbox msg payload (receivers t mbox msg)

abbrev pub outcomes_at : Subscriptions → CoopTable → Target → MsgId → Payload → List Outcome
outcomes_at t coops (Mbox mbox) msg payload = outcomes_of t coops mbox msg payload
outcomes_at t coops (Chain chain) msg payload = []
