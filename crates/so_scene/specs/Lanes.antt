-- On which lanes agents run, and which events stand in one queue.
use Rattle.std.specs.Prelude.{◌≡◌, ◌<◌, ◌≤◌, ℕ, zero, suc, ◌-◌, List, [], ◌∷◌, ◌++◌, length, map, replicate, slice_index_or, Bool, true, false, ◌==◌, ◌&&◌, Option, Some, None, unwrap_or}
use Rattle.std.specs.List.{filter, position}
use Rattle.so_ids.specs.Limits.{most_agents}
use Rattle.so_ids.specs.declared.AgentId.{AgentId}
use Rattle.so_ids.specs.declared.DispId.{DispId}
use Rattle.so_ids.specs.declared.LaneId.{LaneId}
use Rattle.so_ids.specs.declared.KeyId.{KeyId}
use Rattle.so_lists.specs.Lists.{each_below}
use Rattle.so_scene.specs.declared.lanes.Part.{Part}
use Rattle.so_scene.specs.declared.lanes.Part.TheVariants as part
use Rattle.so_scene.specs.declared.lanes.Queue.{Queue}
use Rattle.so_scene.specs.declared.lanes.Lane.{Lane}
use Rattle.so_scene.specs.declared.lanes.Layout.{Layout}
use Rattle.so_scene.specs.declared.parts.AgentDef.{AgentDef}
use Rattle.so_scene.specs.declared.parts.DispDef.{DispDef}
use Rattle.so_scene.specs.declared.parts.DispKind.{DispKind}
use Rattle.so_scene.specs.declared.parts.DispKind.TheVariants.{OneThread, ActiveObj, ActiveGroup, ThreadPool, AdvThreadPool, StrictlyOrdered, QuotedRoundRobin, OnePerPrio}
use Rattle.so_scene.specs.declared.parts.Fifo.{Fifo}
use Rattle.so_scene.specs.declared.parts.Fifo.TheVariants.{Cooperation, Individual}
use Rattle.so_scene.specs.declared.parts.SceneParts.{SceneParts}
use Rattle.so_scene.specs.Parts.{agent_of, disp_of, groups_of}

-- ---- queues: with whom an agent shares its queue

abbrev pub part_in_pool : Fifo → AgentId → AgentDef → Part
part_in_pool Cooperation a def = part.Coop def.coop
part_in_pool Individual a def = part.Own a

abbrev pub part_by : DispKind → Fifo → AgentId → AgentDef → Part
part_by OneThread fifo a def = part.Whole
part_by ActiveObj fifo a def = part.Own a
part_by ActiveGroup fifo a def = part.Group (unwrap_or def.group 0)
part_by ThreadPool fifo a def = part_in_pool fifo a def
part_by AdvThreadPool fifo a def = part_in_pool fifo a def
part_by StrictlyOrdered fifo a def = part.Whole
part_by QuotedRoundRobin fifo a def = part.Whole
part_by OnePerPrio fifo a def = part.Prio def.priority.level

abbrev pub part_of : DispDef → AgentId → AgentDef → Part
part_of d a def = part_by d.kind d.fifo a def

-- the queue of an agent's events: its dispatcher, and its part of that one's agents
abbrev pub queue_of : SceneParts → AgentId → Queue
queue_of s a = record { disp = (agent_of s a).disp; part = part_of (disp_of s (agent_of s a).disp) a (agent_of s a) }

abbrev pub same_part : Part → Part → Bool
same_part part.Whole part.Whole = true
same_part (part.Own a) (part.Own b) = a.0 == b.0
same_part (part.Group g) (part.Group h) = g == h
same_part (part.Coop c) (part.Coop d) = c.0 == d.0
same_part (part.Prio p) (part.Prio q) = p == q
same_part x y = false

abbrev pub same_queue : Queue → Queue → Bool
same_queue q r = (q.disp.0 == r.disp.0) && same_part q.part r.part

abbrev pub no_queue : Queue
no_queue = record { disp = record { 0 = 0 }; part = part.Whole }

-- the queues of all agents, by agent
abbrev pub queue_at : SceneParts → ℕ → Queue
queue_at s a = queue_of s (record { 0 = a })

unfoldable pub queues : SceneParts → List Queue
queues s = each_below (queue_at s) (length s.agents)

-- a queue's number is that of the first agent whose events stand in it
unfoldable pub key_of : SceneParts → AgentId → KeyId
key_of s a = record { 0 = unwrap_or (position (same_queue (queue_of s a)) (queues s)) 0 }

abbrev pub key_at : SceneParts → ℕ → KeyId
key_at s a = key_of s (record { 0 = a })

abbrev pub no_key : KeyId
no_key = record { 0 = 0 }

-- of a list of queues, the first place of each
abbrev pub first_place : List Queue → ℕ → KeyId
first_place qs k = record { 0 = unwrap_or (position (same_queue (slice_index_or qs k no_queue)) qs) 0 }

abbrev pub numbered : List Queue → List KeyId
numbered qs = each_below (first_place qs) (length qs)

-- queues have numbers below this one
unfoldable pub keys : SceneParts → ℕ
keys s = length s.agents

-- ---- lanes

-- each agent is bound to a dispatcher, and each dispatcher has its groups
pub record AreBound (s : SceneParts) : Type 0 where
  pub few : length s.agents ≤ most_agents
  pub few_dispatchers : length s.dispatchers ≤ 64
  pub groups : length s.groups ≡ length s.dispatchers
  pub few_groups : (d : DispId) → d.0 < length s.dispatchers → length (groups_of s d) ≤ 4096
  pub agents : (a : AgentId) → a.0 < length s.agents → (agent_of s a).disp.0 < length s.dispatchers

-- a lane that takes from all queues of a dispatcher, and one that takes from one of them
abbrev pub shared_lane : DispId → Lane
shared_lane d = record { disp = d; part = None }

abbrev pub own_lane : DispId → Part → Lane
own_lane d p = record { disp = d; part = Some p }

-- the agents that are bound to a dispatcher, by number
abbrev pub agent_number : ℕ → AgentId
agent_number k = record { 0 = k }

abbrev pub is_bound : SceneParts → DispId → AgentId → Bool
is_bound s d a = (agent_of s a).disp.0 == d.0

abbrev pub bound_to : SceneParts → DispId → List AgentId
bound_to s d = filter (is_bound s d) (each_below agent_number (length s.agents))

-- a lane for each of these agents, for each of so many groups, and for each priority, the highest first
abbrev pub agent_lane : DispId → AgentId → Lane
agent_lane d a = own_lane d (part.Own a)

abbrev pub group_lane : DispId → ℕ → Lane
group_lane d g = own_lane d (part.Group g)

abbrev pub priority_lane : DispId → ℕ → Lane
priority_lane d k = own_lane d (part.Prio (7 - k))

-- the lanes of a dispatcher, in order
abbrev pub lanes_by : SceneParts → DispId → DispKind → ℕ → List Lane
lanes_by s d OneThread threads = shared_lane d ∷ []
lanes_by s d ActiveObj threads = map (agent_lane d) (bound_to s d)
lanes_by s d ActiveGroup threads = each_below (group_lane d) (length (groups_of s d))
lanes_by s d ThreadPool threads = replicate threads (shared_lane d)
lanes_by s d AdvThreadPool threads = replicate threads (shared_lane d)
lanes_by s d StrictlyOrdered threads = shared_lane d ∷ []
lanes_by s d QuotedRoundRobin threads = shared_lane d ∷ []
lanes_by s d OnePerPrio threads = each_below (priority_lane d) 8

abbrev pub lanes_of : SceneParts → DispId → List Lane
lanes_of s d = lanes_by s d (disp_of s d).kind (disp_of s d).threads

-- those of the first n dispatchers
abbrev pub lanes_to : SceneParts → ℕ → List Lane
lanes_to s zero = []
lanes_to s (suc n) = lanes_to s n ++ lanes_of s (record { 0 = n })

-- all lanes, by number: those of the dispatchers in order
unfoldable pub lane_list : SceneParts → List Lane
lane_list s = lanes_to s (length s.dispatchers)

-- how many there are
unfoldable pub lanes : SceneParts → ℕ
lanes s = length (lane_list s)

abbrev pub no_lane : Lane
no_lane = shared_lane (record { 0 = 0 })

abbrev pub lane_at : SceneParts → LaneId → Lane
lane_at s lane = slice_index_or (lane_list s) lane.0 no_lane

-- the queue of each agent, its number, and the lanes
pub record IsLaidOut (s : SceneParts) (l : Layout) : Type 0 where
  pub queues : l.queues.items ≡ queues s
  pub keys : l.keys.items ≡ each_below (key_at s) (length s.agents)
  pub lanes : l.lanes.items ≡ lane_list s

-- ---- which lanes take from which queues

abbrev pub serves_part : Option Part → Part → Bool
serves_part None p = true
serves_part (Some own) p = same_part own p

abbrev pub serves_queue : Lane → Queue → Bool
serves_queue lane q = (lane.disp.0 == q.disp.0) && serves_part lane.part q.part

-- the lane takes demands from the queue
unfoldable pub serves : SceneParts → LaneId → KeyId → Bool
serves s lane key = serves_queue (lane_at s lane) (queue_at s key.0)
