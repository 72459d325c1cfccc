-- The pick of a lane that serves one agent's queue alone.
use Rattle.std.proofs.Common.{◌≡◌, ℕ, ◌<◌, true, false, Option, Some, None, refl, sym, ◌∙◌, ap, inl, inr, subst}
use Rattle.std.specs.Prelude.{◌==◌, ◌&&◌}
use Rattle.std.proofs.lemmas.Bool.{cases_Bool, eqb-true, and_parts}
use Rattle.so_ids.specs.declared.AgentId.{AgentId}
use Rattle.so_ids.specs.declared.KeyId.{KeyId}
use Rattle.so_ids.specs.declared.LaneId.{LaneId}
use Rattle.so_ids.specs.declared.DemandId.{DemandId}
use Rattle.so_scene.specs.declared.lanes.Part.{Part}
use Rattle.so_scene.specs.declared.lanes.Part.TheVariants as part
use Rattle.so_scene.specs.declared.parts.AgentDef.{AgentDef}
use Rattle.so_scene.specs.declared.parts.DispKind.{DispKind}
use Rattle.so_scene.specs.declared.parts.DispKind.TheVariants.{OneThread, ActiveObj, ActiveGroup, ThreadPool, AdvThreadPool, StrictlyOrdered, QuotedRoundRobin, OnePerPrio}
use Rattle.so_scene.specs.declared.parts.Fifo.{Fifo}
use Rattle.so_scene.specs.declared.parts.Fifo.TheVariants.{Cooperation, Individual}
use Rattle.so_scene.specs.declared.parts.SceneParts.{SceneParts}
use Rattle.so_scene.specs.Lanes.{part_by, same_part, queue_at, lane_at, serves, serves_part, keys}
use Rattle.so_queue.specs.Queues.{QueueTable, lesser}
use Rattle.so_queue.specs.Picks.{least_below}
use Rattle.so_queue.proofs.LeastLaws.{least_none, least_more}
use Rattle.so_disp_excl.specs.Pick.{open_front, pick}

-- an agent's own part is that of no other agent
own_part : (kind : DispKind) (fifo : Fifo) (agent a : AgentId) (def : AgentDef) → same_part (part.Own agent) (part_by kind fifo a def) ≡ true → agent.0 ≡ a.0
own_part OneThread fifo agent a def e = cc
own_part ActiveObj fifo agent a def e = eqb-true agent.0 a.0 e
own_part ActiveGroup fifo agent a def e = cc
own_part ThreadPool Cooperation agent a def e = cc
own_part ThreadPool Individual agent a def e = eqb-true agent.0 a.0 e
own_part AdvThreadPool Cooperation agent a def e = cc
own_part AdvThreadPool Individual agent a def e = eqb-true agent.0 a.0 e
own_part StrictlyOrdered fifo agent a def e = cc
own_part QuotedRoundRobin fifo agent a def e = cc
own_part OnePerPrio fifo agent a def e = cc

own_queue : (s : SceneParts) (lane : LaneId) (agent : AgentId) (j : ℕ) → (lane_at s lane).part ≡ Some (part.Own agent) → serves_part (lane_at s lane).part (queue_at s j).part ≡ true → agent.0 ≡ j
own_queue s lane agent j own e =
    let P : Option Part → Type 0 = λ p. serves_part p (queue_at s j).part ≡ true in
    own_part _ _ agent (record { 0 = j }) _ (subst P own e)

own_serves : (s : SceneParts) (lane : LaneId) (agent : AgentId) (j : ℕ) → (lane_at s lane).part ≡ Some (part.Own agent) → serves s lane (record { 0 = j }) ≡ true → agent.0 ≡ j
unfolding serves
own_serves s lane agent j own e = own_queue s lane agent j own (and_parts _ _ e).1

-- so no other queue is open to the lane
shut_others : (s : SceneParts) (q : QueueTable) (lane : LaneId) (agent : AgentId) (j : ℕ) → (lane_at s lane).part ≡ Some (part.Own agent) → (j ≡ agent.0 → ⊥) → open_front s q lane j ≡ None
shut_others s q lane agent j own apart =
    elim (cases_Bool (serves s lane (record { 0 = j }))) [
      | inl t ↦ absurd (apart (sym (own_serves s lane agent j own t)))
      | inr f ↦ rw f refl
    ]

least_only : (g : ℕ → Option DemandId) (n k : ℕ) → k < n → ((j : ℕ) → (j ≡ k → ⊥) → g j ≡ None) → least_below g n ≡ g k
least_only g n k in_range others = least_more (λ j. None) g n k in_range refl (λ j below apart. others j apart) ∙ ap (λ x. lesser x (g k)) (least_none (λ j. None) n (λ j below. refl))

-- the lane may take the front of its queue where that is open
pub own_front : (s : SceneParts) (q : QueueTable) (lane : LaneId) (agent : AgentId) → (lane_at s lane).part ≡ Some (part.Own agent) → agent.0 < keys s → open_front s q lane agent.0 ≡ pick s q lane
unfolding pick
own_front s q lane agent own in_range = sym (least_only (open_front s q lane) (keys s) agent.0 in_range (λ j apart. shut_others s q lane agent j own apart))

pub own_past : (s : SceneParts) (q : QueueTable) (lane : LaneId) (agent : AgentId) → (lane_at s lane).part ≡ Some (part.Own agent) → (agent.0 < keys s → ⊥) → None ≡ pick s q lane
unfolding pick
own_past s q lane agent own past =
    sym (least_none (open_front s q lane) (keys s) (λ j below. shut_others s q lane agent j own (λ same. past (subst (λ i. i < keys s) same below))))
