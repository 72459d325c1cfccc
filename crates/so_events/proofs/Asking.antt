-- What is asked of one agent more.
use Rattle.std.proofs.Common.{◌≡◌, ℕ, zero, suc, ◌+◌, ◌<◌, List, [], ◌∷◌, ◌++◌, length, map, take, Some, None, arith, refl, sym, ◌∙◌, ap, subst, add-one, append_assoc}
use Rattle.std.proofs.lemmas.List.{map-append, length-map, append-nil}
use Rattle.std.proofs.lemmas.Option.{same_Some}
use Rattle.std.specs.Prelude.{slice_get}
use Rattle.std.specs.List.{All}
use Rattle.so_ids.specs.declared.Queued.{Queued}
use Rattle.so_ids.specs.declared.AgentId.{AgentId}
use Rattle.so_lists.specs.Lists.{each_below}
use Rattle.so_scene.specs.Parts.{agents_from}
use Rattle.so_lists.proofs.EachBelow.{length-each_below}
use Rattle.so_history.specs.declared.entry.Demand.{Demand}
use Rattle.so_history.specs.declared.entry.DemandKind.{DemandKind}
use Rattle.so_history.specs.Demands.{ask, ask_each, demand_of, demands_from}
use Rattle.so_history.proofs.NameLaws.{demands_from-append, length-demands_from}

each_below-next : (f : ℕ → AgentId) (k : ℕ) → each_below f (k + 1) ≡ each_below f k ++ f k ∷ []
unfolding each_below
each_below-next f k = ap (each_below f) (add-one k)

pub agents_from-next : (first : AgentId) (k : ℕ) → agents_from first (k + 1) ≡ agents_from first k ++ record { 0 = first.0 + k } ∷ []
agents_from-next first k = each_below-next (λ i. record { 0 = first.0 + i }) k

length-asked : (kind : DemandKind) (agents : List AgentId) → length (ask_each kind agents) ≡ length agents
length-asked kind [] = refl
length-asked kind (a ∷ agents) = ap suc (length-asked kind agents)

pub length-asked_from : (kind : DemandKind) (first : AgentId) (k : ℕ) → length (ask_each kind (agents_from first k)) ≡ k
length-asked_from kind first k = length-asked kind (agents_from first k) ∙ length-each_below (λ i. record { 0 = first.0 + i }) k

pub asked-next : (place : ℕ) (kind : DemandKind) (first : AgentId) (k : ℕ) → demands_from place 0 (ask_each kind (agents_from first (k + 1))) ≡
    demands_from place 0 (ask_each kind (agents_from first k)) ++ record { id = record { place = record { 0 = place }; k = k }; agent = record { 0 = first.0 + k }; kind = kind } ∷ []
asked-next place kind first k =
    let n : 0 + length (ask_each kind (agents_from first k)) ≡ k = omega (arith, length-asked_from kind first k) in
    let last : AgentId = record { 0 = first.0 + k } in
    ap (λ agents. demands_from place 0 (ask_each kind agents)) (agents_from-next first k)
    ∙ (ap (demands_from place 0) (map-append (λ a. record { agent = a; kind = kind }) (agents_from first k) (last ∷ []))
    ∙ (demands_from-append place 0 (ask_each kind (agents_from first k)) (ask_each kind (last ∷ []))
    ∙ ap (λ m. demands_from place 0 (ask_each kind (agents_from first k)) ++ demands_from place m (ask_each kind (last ∷ []))) n))

pub length-demands_asked : (place : ℕ) (kind : DemandKind) (first : AgentId) (k : ℕ) → length (demands_from place 0 (ask_each kind (agents_from first k))) ≡ k
length-demands_asked place kind first k = length-demands_from place 0 (ask_each kind (agents_from first k)) ∙ length-asked_from kind first k

-- the waiting demands while the asking goes on
pub queue_next : (queue : List Demand) (place : ℕ) (kind : DemandKind) (first : AgentId) (k : ℕ) → (queue ++ demands_from place 0 (ask_each kind (agents_from first k))) ++ record { id = record { place = record { 0 = place }; k = k }; agent = record { 0 = first.0 + k }; kind = kind } ∷ []
    ≡ queue ++ demands_from place 0 (ask_each kind (agents_from first (k + 1)))
queue_next queue place kind first k = append_assoc queue _ _ ∙ ap (λ ds. queue ++ ds) (sym (asked-next place kind first k))

pub queue_none : (queue : List Demand) (place : ℕ) (kind : DemandKind) (first : AgentId) → queue ++ demands_from place 0 (ask_each kind (agents_from first 0)) ≡ queue
unfolding each_below
queue_none queue place kind first = append-nil queue

pub ruleset asked = (length-asked_from)

take_next : (xs : List Queued) (k : ℕ) (x : Queued) → slice_get xs k ≡ Some x → take (k + 1) xs ≡ take k xs ++ x ∷ []
take_next [] k x here = absurd cc
take_next (y ∷ xs) zero x here = ap (λ z. z ∷ []) (same_Some y x here)
take_next (y ∷ xs) (suc k) x here =
    let next : suc k + 1 ≡ suc (k + 1) = omega arith in
    ap (λ n. take n (y ∷ xs)) next ∙ ap (λ ys. y ∷ ys) (take_next xs k x here)

pub length_taken : (xs : List Queued) (k : ℕ) (x : Queued) → slice_get xs k ≡ Some x → length (take k xs) ≡ k
length_taken [] k x here = absurd cc
length_taken (y ∷ xs) zero x here = refl
length_taken (y ∷ xs) (suc k) x here = ap suc (length_taken xs k x here)

-- the waiting demands while the events of a delivery are queued
pub events_next : (queue : List Demand) (place : ℕ) (events : List Queued) (k : ℕ) (q : Queued) → slice_get events k ≡ Some q →
    (queue ++ demands_from place 0 (map ask (take k events))) ++ demand_of place k (ask q) ∷ [] ≡ queue ++ demands_from place 0 (map ask (take (k + 1) events))
events_next queue place events k q here =
    let one : take (k + 1) events ≡ take k events ++ q ∷ [] = take_next events k q here in
    let n : 0 + length (map ask (take k events)) ≡ k = omega (arith, length-map (take k events) ask, length_taken events k q here) in
    append_assoc queue _ _
    ∙ ap (λ ds. queue ++ ds)
    (sym
    (ap (λ xs. demands_from place 0 (map ask xs)) one
    ∙ (ap (demands_from place 0) (map-append ask (take k events) (q ∷ []))
    ∙ (demands_from-append place 0 (map ask (take k events)) (map ask (q ∷ []))
    ∙ ap (λ m. demands_from place 0 (map ask (take k events)) ++ demands_from place m (map ask (q ∷ []))) n))))

pub past_end : (xs : List Queued) (k : ℕ) → k < length xs → slice_get xs k ≡ None → ⊥
past_end [] k l none = absurd (omega arith)
past_end (x ∷ xs) zero l none = cc
past_end (x ∷ xs) (suc k) l none = past_end xs k (omega (arith, l)) none

pub event_known : (n : ℕ) (xs : List Queued) (k : ℕ) (x : Queued) → slice_get xs k ≡ Some x → All (λ (e : Queued). e.agent.0 < n) xs → x.agent.0 < n
event_known n [] k x here all = absurd cc
event_known n (y ∷ xs) zero x here all = subst (λ (e : Queued). e.agent.0 < n) (same_Some y x here) (all 0 y (omega arith))
event_known n (y ∷ xs) (suc k) x here all = event_known n xs k x here (λ i e l. all (suc i) e (omega (arith, l)))
