-- A delivery, agent by agent.
use Rattle.std.proofs.Common.{◌≡◌, ℕ, ◌+◌, ◌<◌, suc, List, [], ◌∷◌, ◌++◌, length, map, drop, get_or, Bool, true, false, ◌&&◌, cond, refl, ap, ◌∙◌, sym, arith, append_assoc, add-one, drop-cons}
use Rattle.std.specs.List.{filter}
use Rattle.so_ids.specs.declared.AgentId.{AgentId}
use Rattle.so_ids.specs.declared.MboxId.{MboxId}
use Rattle.so_ids.specs.declared.MsgId.{MsgId}
use Rattle.so_ids.specs.declared.Payload.{Payload}
use Rattle.so_ids.specs.declared.Queued.{Queued}
use Rattle.so_scene.specs.Delivery.{Outcome, outcome_for, outcomes, events, is_lost, is_subscribed, receivers_among}
use Rattle.so_coop.specs.Coops.{CoopTable, is_leaving}
use Rattle.so_deliver.specs.Planned.{outcomes_of}
use Rattle.so_mbox.specs.Table.{Subscriptions, active_rows, candidates, passes}
use Rattle.so_mbox.proofs.CandidateLaws.{receivers_are_candidates}

-- what becomes of it for those of these agents that receive it
abbrev pub outcomes_among : Subscriptions → CoopTable → MboxId → MsgId → Payload → List AgentId → List Outcome
outcomes_among t coops mbox msg payload agents = outcomes (passes t mbox msg payload) (is_leaving coops) mbox msg payload (receivers_among t.scene (active_rows t) mbox msg agents)

abbrev pub event_for : MboxId → MsgId → Payload → AgentId → Queued
event_for mbox msg payload a = record { agent = a; mbox = mbox; msg = msg; payload = payload }

abbrev pub lets_in : Subscriptions → MboxId → MsgId → Payload → AgentId → Bool
lets_in t mbox msg payload a = is_subscribed t.scene mbox msg a (active_rows t a) && passes t mbox msg payload a

abbrev pub losses : List Outcome → ℕ
losses list = length (filter is_lost list)

-- an agent that gets it
abbrev pub first_event : Bool → Bool → Queued → List Queued
first_event true false event = event ∷ []
first_event true true event = []
first_event false closed event = []

abbrev pub first_loss : Bool → Bool → ℕ
first_loss true true = 1
first_loss true false = 0
first_loss false closed = 0

-- the first agent, and the others
one_events : (receives passed closed : Bool) (f : AgentId → Outcome) (a : AgentId) (event : Queued) (agents : List AgentId) → f a ≡ outcome_for passed closed event →
    events (map f (cond receives (a ∷ agents) agents)) ≡ first_event (receives && passed) closed event ++ events (map f agents)
one_events true true true f a event agents e = rw e refl
one_events true true false f a event agents e = rw e refl
one_events true false closed f a event agents e = rw e refl
one_events false passed closed f a event agents e = refl

one_losses : (receives passed closed : Bool) (f : AgentId → Outcome) (a : AgentId) (event : Queued) (agents : List AgentId) → f a ≡ outcome_for passed closed event →
    losses (map f (cond receives (a ∷ agents) agents)) ≡ first_loss (receives && passed) closed + losses (map f agents)
one_losses true true true f a event agents e = rw e (omega arith)
one_losses true true false f a event agents e = rw e (omega arith)
one_losses true false closed f a event agents e = rw e (omega arith)
one_losses false passed closed f a event agents e = omega arith

pub events-cons : (t : Subscriptions) (coops : CoopTable) (mbox : MboxId) (msg : MsgId) (payload : Payload) (a : AgentId) (agents : List AgentId) →
    events (outcomes_among t coops mbox msg payload (a ∷ agents)) ≡ first_event (lets_in t mbox msg payload a) (is_leaving coops a) (event_for mbox msg payload a) ++ events (outcomes_among t coops mbox msg payload agents)
events-cons t coops mbox msg payload a agents =
    one_events (is_subscribed t.scene mbox msg a (active_rows t a)) (passes t mbox msg payload a) (is_leaving coops a)
    (λ b. outcome_for (passes t mbox msg payload b) (is_leaving coops b) (event_for mbox msg payload b)) a (event_for mbox msg payload a)
    (receivers_among t.scene (active_rows t) mbox msg agents) refl

pub losses-cons : (t : Subscriptions) (coops : CoopTable) (mbox : MboxId) (msg : MsgId) (payload : Payload) (a : AgentId) (agents : List AgentId) →
    losses (outcomes_among t coops mbox msg payload (a ∷ agents)) ≡ first_loss (lets_in t mbox msg payload a) (is_leaving coops a) + losses (outcomes_among t coops mbox msg payload agents)
losses-cons t coops mbox msg payload a agents =
    one_losses (is_subscribed t.scene mbox msg a (active_rows t a)) (passes t mbox msg payload a) (is_leaving coops a)
    (λ b. outcome_for (passes t mbox msg payload b) (is_leaving coops b) (event_for mbox msg payload b)) a (event_for mbox msg payload a)
    (receivers_among t.scene (active_rows t) mbox msg agents) refl

-- ---- the candidates from a place of the list on

abbrev pub events_from : Subscriptions → CoopTable → MboxId → MsgId → Payload → ℕ → List Queued
events_from t coops mbox msg payload i = events (outcomes_among t coops mbox msg payload (drop i (candidates t mbox msg)))

abbrev pub losses_from : Subscriptions → CoopTable → MboxId → MsgId → Payload → ℕ → ℕ
losses_from t coops mbox msg payload i = losses (outcomes_among t coops mbox msg payload (drop i (candidates t mbox msg)))

events-next : (t : Subscriptions) (coops : CoopTable) (mbox : MboxId) (msg : MsgId) (payload : Payload) (i : ℕ) (a d : AgentId) (b off : Bool) → i < length (candidates t mbox msg) → a ≡ get_or (candidates t mbox msg) i d → lets_in t mbox msg payload a ≡ b → is_leaving coops a ≡ off →
    events_from t coops mbox msg payload i ≡ first_event b off (event_for mbox msg payload a) ++ events_from t coops mbox msg payload (i + 1)
events-next t coops mbox msg payload i a d b off l is lets e =
    ap (λ xs. events (outcomes_among t coops mbox msg payload xs)) (drop-cons (candidates t mbox msg) i d l) ∙
    (rw (← is, add-one) (events-cons t coops mbox msg payload a (drop (suc i) (candidates t mbox msg)) ∙
    ap (λ xs. xs ++ events (outcomes_among t coops mbox msg payload (drop (suc i) (candidates t mbox msg)))) (ap (λ x. first_event x (is_leaving coops a) (event_for mbox msg payload a)) lets ∙ ap (λ x. first_event b x (event_for mbox msg payload a)) e)))

losses-next : (t : Subscriptions) (coops : CoopTable) (mbox : MboxId) (msg : MsgId) (payload : Payload) (i : ℕ) (a d : AgentId) (b off : Bool) → i < length (candidates t mbox msg) → a ≡ get_or (candidates t mbox msg) i d → lets_in t mbox msg payload a ≡ b → is_leaving coops a ≡ off →
    losses_from t coops mbox msg payload i ≡ first_loss b off + losses_from t coops mbox msg payload (i + 1)
losses-next t coops mbox msg payload i a d b off l is lets e =
    ap (λ xs. losses (outcomes_among t coops mbox msg payload xs)) (drop-cons (candidates t mbox msg) i d l) ∙
    (rw (← is, add-one) (losses-cons t coops mbox msg payload a (drop (suc i) (candidates t mbox msg)) ∙
    ap (λ n. n + losses (outcomes_among t coops mbox msg payload (drop (suc i) (candidates t mbox msg)))) (ap (λ x. first_loss x (is_leaving coops a)) lets ∙ ap (first_loss b) e)))

-- what is left runs as the whole did, after an agent that gets the message, to whom it is lost, and who doesn't get it
pub record Goes (t : Subscriptions) (coops : CoopTable) (mbox : MboxId) (msg : MsgId) (payload : Payload) (queued : List Queued) (lost : ℕ) (i : ℕ) (all : List Queued) (total : ℕ) : Type 0 where
  pub events : queued ++ events_from t coops mbox msg payload i ≡ all
  pub losses : lost + losses_from t coops mbox msg payload i ≡ total

-- all candidates run as all that receive it
pub goes_begin : (t : Subscriptions) (coops : CoopTable) (mbox : MboxId) (msg : MsgId) (payload : Payload) →
    Goes t coops mbox msg payload [] 0 0 (events (outcomes_of t coops mbox msg payload)) (losses (outcomes_of t coops mbox msg payload))
goes_begin t coops mbox msg payload =
    let same = ap (outcomes (passes t mbox msg payload) (is_leaving coops) mbox msg payload) (receivers_are_candidates t mbox msg) in
    record { events = ap events same; losses = (let e = ap losses same in omega (arith, e)) }

pub goes-queued : (t : Subscriptions) (coops : CoopTable) (mbox : MboxId) (msg : MsgId) (payload : Payload) (queued all : List Queued) (lost total i : ℕ) (a d : AgentId) →
    i < length (candidates t mbox msg) → a ≡ get_or (candidates t mbox msg) i d → lets_in t mbox msg payload a ≡ true → is_leaving coops a ≡ false →
    Goes t coops mbox msg payload queued lost i all total → Goes t coops mbox msg payload (queued ++ event_for mbox msg payload a ∷ []) lost (i + 1) all total
goes-queued t coops mbox msg payload queued all lost total i a d l is lets e g = record {
  events = append_assoc queued (event_for mbox msg payload a ∷ []) (events_from t coops mbox msg payload (i + 1)) ∙ (ap (λ xs. queued ++ xs) (sym (events-next t coops mbox msg payload i a d true false l is lets e)) ∙ g.events);
  losses = omega (arith, losses-next t coops mbox msg payload i a d true false l is lets e, g.losses);
}

pub goes-lost : (t : Subscriptions) (coops : CoopTable) (mbox : MboxId) (msg : MsgId) (payload : Payload) (queued all : List Queued) (lost total i : ℕ) (a d : AgentId) →
    i < length (candidates t mbox msg) → a ≡ get_or (candidates t mbox msg) i d → lets_in t mbox msg payload a ≡ true → is_leaving coops a ≡ true →
    Goes t coops mbox msg payload queued lost i all total → Goes t coops mbox msg payload queued (lost + 1) (i + 1) all total
goes-lost t coops mbox msg payload queued all lost total i a d l is lets e g = record {
  events = ap (λ xs. queued ++ xs) (sym (events-next t coops mbox msg payload i a d true true l is lets e)) ∙ g.events;
  losses = omega (arith, losses-next t coops mbox msg payload i a d true true l is lets e, g.losses);
}

pub goes-on : (t : Subscriptions) (coops : CoopTable) (mbox : MboxId) (msg : MsgId) (payload : Payload) (queued all : List Queued) (lost total i : ℕ) (a d : AgentId) →
    i < length (candidates t mbox msg) → a ≡ get_or (candidates t mbox msg) i d → lets_in t mbox msg payload a ≡ false →
    Goes t coops mbox msg payload queued lost i all total → Goes t coops mbox msg payload queued lost (i + 1) all total
goes-on t coops mbox msg payload queued all lost total i a d l is lets g = record {
  events = ap (λ xs. queued ++ xs) (sym (events-next t coops mbox msg payload i a d false (is_leaving coops a) l is lets refl)) ∙ g.events;
  losses = omega (arith, losses-next t coops mbox msg payload i a d false (is_leaving coops a) l is lets refl, g.losses);
}
