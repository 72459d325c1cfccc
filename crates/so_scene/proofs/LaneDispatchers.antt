-- Each lane is one of a dispatcher of the scene.
use Rattle.std.proofs.Common.{ℕ, zero, suc, ◌<◌, ◌≤◌, List, [], ◌∷◌, length, map, get_or, replicate, arith}
use Rattle.std.specs.List.{AllByRecursion}
use Rattle.so_ids.specs.declared.AgentId.{AgentId}
use Rattle.so_ids.specs.declared.DispId.{DispId}
use Rattle.so_ids.specs.declared.LaneId.{LaneId}
use Rattle.so_lists.proofs.EachBelow.{all-each_below}
use Rattle.so_lists.proofs.Filters.{each-append}
use Rattle.so_scene.specs.declared.lanes.Lane.{Lane}
use Rattle.so_scene.specs.declared.parts.DispKind.{DispKind}
use Rattle.so_scene.specs.declared.parts.DispKind.TheVariants.{OneThread, ActiveObj, ActiveGroup, ThreadPool, AdvThreadPool, StrictlyOrdered, QuotedRoundRobin, OnePerPrio}
use Rattle.so_scene.specs.declared.parts.SceneParts.{SceneParts}
use Rattle.so_scene.specs.Parts.{disp_of, groups_of}
use Rattle.so_scene.specs.Lanes.{shared_lane, agent_lane, group_lane, priority_lane, bound_to, lanes_by, lanes_of, lanes_to, lane_list, lanes, no_lane, lane_at}

abbrev pub IsBelow : ℕ → Lane → Type 0
IsBelow n lane = lane.disp.0 < n

shared_below : (n : ℕ) (d : DispId) (threads : ℕ) → d.0 < n → AllByRecursion (IsBelow n) (replicate threads (shared_lane d))
shared_below n d zero l = tt
shared_below n d (suc k) l = (l, shared_below n d k l)

agents_below : (n : ℕ) (d : DispId) (agents : List AgentId) → d.0 < n → AllByRecursion (IsBelow n) (map (agent_lane d) agents)
agents_below n d [] l = tt
agents_below n d (a ∷ agents) l = (l, agents_below n d agents l)

by_below : (n : ℕ) (s : SceneParts) (d : DispId) (kind : DispKind) (threads : ℕ) → d.0 < n → AllByRecursion (IsBelow n) (lanes_by s d kind threads)
by_below n s d OneThread threads l = (l, tt)
by_below n s d ActiveObj threads l = agents_below n d (bound_to s d) l
by_below n s d ActiveGroup threads l = all-each_below (IsBelow n) (group_lane d) (length (groups_of s d)) (λ i m. l)
by_below n s d ThreadPool threads l = shared_below n d threads l
by_below n s d AdvThreadPool threads l = shared_below n d threads l
by_below n s d StrictlyOrdered threads l = (l, tt)
by_below n s d QuotedRoundRobin threads l = (l, tt)
by_below n s d OnePerPrio threads l = all-each_below (IsBelow n) (priority_lane d) 8 (λ i m. l)

to_below : (n : ℕ) (s : SceneParts) (k : ℕ) → k ≤ n → AllByRecursion (IsBelow n) (lanes_to s k)
to_below n s zero few = tt
to_below n s (suc k) few =
    each-append (IsBelow n) (lanes_to s k) (lanes_of s (record { 0 = k })) (to_below n s k (omega arith)) (by_below n s (record { 0 = k }) (disp_of s (record { 0 = k })).kind (disp_of s (record { 0 = k })).threads (omega arith))

one_below : (n : ℕ) (xs : List Lane) (k : ℕ) → k < length xs → AllByRecursion (IsBelow n) xs → (get_or xs k no_lane).disp.0 < n
one_below n [] k l all = absurd (omega arith)
one_below n (x ∷ xs) zero l all = all.0
one_below n (x ∷ xs) (suc k) l all = one_below n xs k (omega arith) all.1

pub lane_dispatcher : (s : SceneParts) (lane : LaneId) → lane.0 < lanes s → (lane_at s lane).disp.0 < length s.dispatchers
unfolding lane_list lanes
lane_dispatcher s lane l = one_below (length s.dispatchers) (lanes_to s (length s.dispatchers)) lane.0 l (to_below (length s.dispatchers) s (length s.dispatchers) (omega arith))
