-- Whose events stand in one queue, kind of dispatcher by kind.
use Rattle.std.proofs.Common.{◌≡◌, ℕ, ◌<◌, length, Option, Some, None, refl, sym, ◌∙◌, ap, subst}
use Rattle.std.specs.Prelude.{unwrap_or}
use Rattle.so_ids.specs.declared.AgentId.{AgentId}
use Rattle.so_ids.specs.declared.CoopId.{CoopId}
use Rattle.so_ids.specs.declared.DispId.{DispId}
use Rattle.so_scene.specs.declared.lanes.Part.{Part}
use Rattle.so_scene.specs.declared.lanes.Part.TheVariants as part
use Rattle.so_scene.specs.declared.lanes.Queue.{Queue}
use Rattle.so_scene.specs.declared.parts.DispKind.{DispKind}
use Rattle.so_scene.specs.declared.parts.DispKind.TheVariants.{OneThread, ActiveObj, ActiveGroup, ThreadPool, AdvThreadPool, StrictlyOrdered, QuotedRoundRobin, OnePerPrio}
use Rattle.so_scene.specs.declared.parts.Fifo.{Fifo}
use Rattle.so_scene.specs.declared.parts.Fifo.TheVariants.{Cooperation, Individual}
use Rattle.so_scene.specs.declared.parts.SceneParts.{SceneParts}
use Rattle.so_scene.specs.Parts.{no_agent, agent_of, disp_of, groups_of}
use Rattle.so_scene.specs.Checked.{IsGroup, IsScene}
use Rattle.so_scene.specs.Lanes.{part_in_pool, part_by}
use Rattle.so_scene.proofs.LaneLaws.{same_key, same_queue-key}
use Rattle.so_history.specs.Facts.{ShareQueue}
use Rattle.so_history.specs.Sharing.{PoolPutsTogether, PutsTogether, AreTogether, SharesByRule, NumbersQueues}

-- what a part names, and something else where it is of another kind
abbrev own_of : Part → AgentId → AgentId
own_of (part.Own a) b = a
own_of other b = b

abbrev group_of : Part → ℕ
group_of (part.Group g) = g
group_of other = 0

abbrev coop_in : Part → CoopId → CoopId
coop_in (part.Coop c) d = c
coop_in other d = d

abbrev level_of : Part → ℕ
level_of (part.Prio p) = p
level_of other = 0

-- an agent's part by the rule of a kind, and of a dispatcher
abbrev pool_part : Fifo → SceneParts → AgentId → Part
pool_part fifo s a = part_in_pool fifo a (agent_of s a)

abbrev kind_part : DispKind → Fifo → SceneParts → AgentId → Part
kind_part kind fifo s a = part_by kind fifo a (agent_of s a)

abbrev part_at : SceneParts → AgentId → DispId → Part
part_at s a d = kind_part (disp_of s d).kind (disp_of s d).fifo s a

abbrev group_at : SceneParts → AgentId → DispId → Type 0
group_at s a d = IsGroup (disp_of s d).kind (length (groups_of s d)) (agent_of s a).group

abbrev queue_with : DispId → Part → Queue
queue_with d p = record { disp = d; part = p }

groups_same : (n : ℕ) (g h : Option ℕ) → IsGroup ActiveGroup n g → IsGroup ActiveGroup n h → unwrap_or g 0 ≡ unwrap_or h 0 → g ≡ h
groups_same n None h a b is = absurd a
groups_same n (Some g) None a b is = absurd b
groups_same n (Some g) (Some h) a b is = ap Some is

pool_only : (fifo : Fifo) (s : SceneParts) (a b : AgentId) → pool_part fifo s a ≡ pool_part fifo s b → PoolPutsTogether fifo s a b
pool_only Cooperation s a b is = ap (λ x. coop_in x (agent_of s a).coop) is
pool_only Individual s a b is = ap (λ x. own_of x a) is

pool_all : (fifo : Fifo) (s : SceneParts) (a b : AgentId) → PoolPutsTogether fifo s a b → pool_part fifo s a ≡ pool_part fifo s b
pool_all Cooperation s a b is = ap part.Coop is
pool_all Individual s a b is = ap part.Own is

kind_only : (kind : DispKind) (fifo : Fifo) (n : ℕ) (s : SceneParts) (a b : AgentId) → IsGroup kind n (agent_of s a).group → IsGroup kind n (agent_of s b).group → kind_part kind fifo s a ≡ kind_part kind fifo s b → PutsTogether kind fifo s a b
kind_only OneThread fifo n s a b g h is = tt
kind_only ActiveObj fifo n s a b g h is = ap (λ x. own_of x a) is
kind_only ActiveGroup fifo n s a b g h is = groups_same n (agent_of s a).group (agent_of s b).group g h (ap group_of is)
kind_only ThreadPool fifo n s a b g h is = pool_only fifo s a b is
kind_only AdvThreadPool fifo n s a b g h is = pool_only fifo s a b is
kind_only StrictlyOrdered fifo n s a b g h is = tt
kind_only QuotedRoundRobin fifo n s a b g h is = tt
kind_only OnePerPrio fifo n s a b g h is = ap level_of is

kind_all : (kind : DispKind) (fifo : Fifo) (s : SceneParts) (a b : AgentId) → PutsTogether kind fifo s a b → kind_part kind fifo s a ≡ kind_part kind fifo s b
kind_all OneThread fifo s a b is = refl
kind_all ActiveObj fifo s a b is = ap part.Own is
kind_all ActiveGroup fifo s a b is = ap (λ g. part.Group (unwrap_or g 0)) is
kind_all ThreadPool fifo s a b is = pool_all fifo s a b is
kind_all AdvThreadPool fifo s a b is = pool_all fifo s a b is
kind_all StrictlyOrdered fifo s a b is = refl
kind_all QuotedRoundRobin fifo s a b is = refl
kind_all OnePerPrio fifo s a b is = ap part.Prio is

only : (s : SceneParts) (a b : AgentId) → IsScene s → a.0 < length s.agents → b.0 < length s.agents → ShareQueue s a b → AreTogether s a b
only s a b scene l m is =
    let bound : (agent_of s a).disp ≡ (agent_of s b).disp = ap (λ (q : Queue). q.disp) is in
    let its : part_at s a (agent_of s a).disp ≡ part_at s b (agent_of s b).disp = ap (λ (q : Queue). q.part) is in
    let here : part_at s a (agent_of s a).disp ≡ part_at s b (agent_of s a).disp = its ∙ ap (part_at s b) (sym bound) in
    let group : group_at s b (agent_of s a).disp = subst (group_at s b) (sym bound) (scene.agents b.0 no_agent m).group in
    record {
      bound = bound;
      together = kind_only (disp_of s (agent_of s a).disp).kind (disp_of s (agent_of s a).disp).fifo (length (groups_of s (agent_of s a).disp)) s a b (scene.agents a.0 no_agent l).group group here;
    }

all : (s : SceneParts) (a b : AgentId) → AreTogether s a b → ShareQueue s a b
all s a b are =
    let here : part_at s a (agent_of s a).disp ≡ part_at s b (agent_of s a).disp = kind_all (disp_of s (agent_of s a).disp).kind (disp_of s (agent_of s a).disp).fifo s a b are.together in
    ap (queue_with (agent_of s a).disp) here ∙ ap (λ d. queue_with d (part_at s b d)) are.bound

pub shares_by_rule : (s : SceneParts) (a b : AgentId) → IsScene s → a.0 < length s.agents → b.0 < length s.agents → SharesByRule s a b
shares_by_rule s a b scene l m = record { only = only s a b scene l m; all = all s a b }

pub numbers_queues : (s : SceneParts) (a b : AgentId) → a.0 < length s.agents → b.0 < length s.agents → NumbersQueues s a b
numbers_queues s a b l m = record { only = same_key s a b l m; all = same_queue-key s a b }
