-- Whose events stand in one queue, kind of dispatcher by kind.
use Rattle.std.specs.Prelude.{◌≡◌}
use Rattle.so_ids.specs.declared.AgentId.{AgentId}
use Rattle.so_scene.specs.declared.parts.DispKind.{DispKind}
use Rattle.so_scene.specs.declared.parts.DispKind.TheVariants.{OneThread, ActiveObj, ActiveGroup, ThreadPool, AdvThreadPool, StrictlyOrdered, QuotedRoundRobin, OnePerPrio}
use Rattle.so_scene.specs.declared.parts.Fifo.{Fifo}
use Rattle.so_scene.specs.declared.parts.Fifo.TheVariants.{Cooperation, Individual}
use Rattle.so_scene.specs.declared.parts.SceneParts.{SceneParts}
use Rattle.so_scene.specs.Parts.{agent_of, disp_of}
use Rattle.so_scene.specs.Lanes.{key_of}
use Rattle.so_history.specs.Facts.{ShareQueue}

-- a pool puts two agents into one queue: those of a cooperation, or none but an agent and itself
abbrev pub PoolPutsTogether : Fifo → SceneParts → AgentId → AgentId → Type 0
PoolPutsTogether Cooperation s a b = (agent_of s a).coop ≡ (agent_of s b).coop
PoolPutsTogether Individual s a b = a ≡ b

-- a dispatcher does: with one thread any two of its agents, active_obj none but an agent and itself, active_group those of a group,
-- a pool as its parameter says, and the one with a thread for each priority those of a priority
abbrev pub PutsTogether : DispKind → Fifo → SceneParts → AgentId → AgentId → Type 0
PutsTogether OneThread fifo s a b = Unit {0}
PutsTogether ActiveObj fifo s a b = a ≡ b
PutsTogether ActiveGroup fifo s a b = (agent_of s a).group ≡ (agent_of s b).group
PutsTogether ThreadPool fifo s a b = PoolPutsTogether fifo s a b
PutsTogether AdvThreadPool fifo s a b = PoolPutsTogether fifo s a b
PutsTogether StrictlyOrdered fifo s a b = Unit {0}
PutsTogether QuotedRoundRobin fifo s a b = Unit {0}
PutsTogether OnePerPrio fifo s a b = (agent_of s a).priority.level ≡ (agent_of s b).priority.level

-- two agents are bound to one dispatcher, and it puts them into one queue
pub record AreTogether (s : SceneParts) (a b : AgentId) : Type 0 where
  pub bound : (agent_of s a).disp ≡ (agent_of s b).disp
  pub together : PutsTogether (disp_of s (agent_of s a).disp).kind (disp_of s (agent_of s a).disp).fifo s a b

-- two agents share a queue exactly where their dispatcher puts them together
pub record SharesByRule (s : SceneParts) (a b : AgentId) : Type 0 where
  pub only : ShareQueue s a b → AreTogether s a b
  pub all : AreTogether s a b → ShareQueue s a b

-- their queues have one number exactly where they share one
pub record NumbersQueues (s : SceneParts) (a b : AgentId) : Type 0 where
  pub only : key_of s a ≡ key_of s b → ShareQueue s a b
  pub all : ShareQueue s a b → key_of s a ≡ key_of s b
