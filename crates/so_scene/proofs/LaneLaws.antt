-- How the lists of queues and lanes grow, what a number of a queue says, and that each queue is served by a lane.
use Rattle.std.proofs.Common.{◌≡◌, ℕ, zero, suc, ◌+◌, ◌-◌, ◌<◌, ◌≤◌, List, [], ◌∷◌, ◌++◌, length, map, Bool, true, false, Option, Some, None, arith, refl, sym, ◌∙◌, ap, add-one, cond, eq-eqb, inl, inr}
use Rattle.std.specs.List.{filter, list_any, position, position_or_len}
use Rattle.std.specs.Prelude.{slice_index_or, unwrap_or, replicate, ◌==◌, ◌&&◌, ◌||◌}
use Rattle.std.specs.Cmp.Derive.{both_true}
use Rattle.std.proofs.lemmas.Bool.{cases_lt}
use Rattle.std.proofs.lemmas.List.{append_assoc, append-nil, map-append, get_or_default}
use Rattle.std.proofs.lemmas.List.Elements.{filter-append}
use Rattle.std.proofs.lemmas.List.Folds.{list_any-append, Any-from_list_any}
use Rattle.std.proofs.lemmas.List.Quantifiers.{position-Some}
use Rattle.std.proofs.lemmas.Map.Views.{exact_unsigned_eq}
use Rattle.so_ids.specs.declared.AgentId.{AgentId}
use Rattle.so_ids.specs.declared.DispId.{DispId}
use Rattle.so_ids.specs.declared.KeyId.{KeyId}
use Rattle.so_ids.specs.declared.LaneId.{LaneId}
use Rattle.so_ids.specs.declared.Priority.{Priority}
use Rattle.so_lists.specs.Lists.{each_below}
use Rattle.so_lists.proofs.Any.{any-each_below, any-filter}
use Rattle.so_lists.proofs.EachBelow.{length-each_below, get_or-each_below, each_below-none, each_below-next, each_below-same}
use Rattle.so_lists.proofs.Filters.{filter_map-short, filter-short}
use Rattle.so_lists.proofs.Given.{given-few}
use Rattle.so_state.proofs.Lists.{position-some}
use Rattle.so_scene.specs.declared.lanes.Lane.{Lane}
use Rattle.so_scene.specs.declared.lanes.Part.{Part}
use Rattle.so_scene.specs.declared.lanes.Part.TheVariants as part
use Rattle.so_scene.specs.declared.lanes.Queue.{Queue}
use Rattle.so_scene.specs.declared.parts.DispKind.{DispKind}
use Rattle.so_scene.specs.declared.parts.DispKind.TheVariants.{OneThread, ActiveObj, ActiveGroup, ThreadPool, AdvThreadPool, StrictlyOrdered, QuotedRoundRobin, OnePerPrio}
use Rattle.so_scene.specs.declared.parts.Fifo.{Fifo}
use Rattle.so_scene.specs.declared.parts.SceneParts.{SceneParts}
use Rattle.so_scene.specs.Parts.{no_agent, agent_of, default_disp, disp_of, groups_of}
use Rattle.so_scene.specs.Checked.{IsScene, IsGroup, group_in, group_uses}
use Rattle.so_scene.specs.Lanes.{part_in_pool, part_by, queue_of, same_part, same_queue, no_queue, queue_at, queues, key_of, key_at, keys, no_key, first_place, numbered, shared_lane, own_lane, agent_number, is_bound, bound_to, agent_lane, group_lane, priority_lane, lanes_by, lanes_of, lanes_to, lane_list, lanes, no_lane, serves_queue, serves, AreBound}

-- ---- lists that grow

-- the lanes of the bound ones among the first n agents
abbrev pub bound_lanes : SceneParts → DispId → ℕ → List Lane
bound_lanes s d n = map (agent_lane d) (filter (is_bound s d) (each_below agent_number n))

more : (s : SceneParts) (d : DispId) (n : ℕ) (b : Bool) → is_bound s d (agent_number n) ≡ b → bound_lanes s d (n + 1) ≡ bound_lanes s d n ++ map (agent_lane d) (cond b (agent_number n ∷ []) [])
more s d n b is =
    rw (each_below-next agent_number n, filter-append (is_bound s d) (each_below agent_number n) (agent_number n ∷ []), is)
    (map-append (agent_lane d) (filter (is_bound s d) (each_below agent_number n)) (cond b (agent_number n ∷ []) []))

pub bound_lanes-none : (s : SceneParts) (d : DispId) → bound_lanes s d 0 ≡ []
bound_lanes-none s d = rw (each_below-none agent_number) refl

pub bound_lanes-more : (s : SceneParts) (d : DispId) (n : ℕ) (ys xs : List Lane) → is_bound s d (agent_number n) ≡ true → xs ≡ ys ++ bound_lanes s d n →
    xs ++ agent_lane d (agent_number n) ∷ [] ≡ ys ++ bound_lanes s d (n + 1)
bound_lanes-more s d n ys xs is e = rw (more s d n true is, e) (append_assoc ys (bound_lanes s d n) (agent_lane d (agent_number n) ∷ []))

pub bound_lanes-same : (s : SceneParts) (d : DispId) (n : ℕ) (ys xs : List Lane) → is_bound s d (agent_number n) ≡ false → xs ≡ ys ++ bound_lanes s d n → xs ≡ ys ++ bound_lanes s d (n + 1)
bound_lanes-same s d n ys xs is e = rw (more s d n false is, append-nil (bound_lanes s d n)) e

pub lanes_to-next : (s : SceneParts) (n : ℕ) → lanes_to s (n + 1) ≡ lanes_to s n ++ lanes_of s (record { 0 = n })
lanes_to-next s n = rw (add-one n) refl

-- ---- what a checked scene has

pub few_groups : (s : SceneParts) → IsScene s → (d : DispId) → d.0 < length s.dispatchers → length (groups_of s d) ≤ 4096
few_groups s scene d l =
    let uses : length (group_uses s d) ≤ length (bound_to s d) = filter_map-short (group_in s) (bound_to s d) in
    let agents : length (bound_to s d) ≤ length (each_below agent_number (length s.agents)) = filter-short (is_bound s d) (each_below agent_number (length s.agents)) in
    omega (arith, given-few 0 (length (groups_of s d)) (group_uses s d) (scene.groups d l).numbered, uses, agents, length-each_below agent_number (length s.agents), scene.few_agents)

pub bound : (s : SceneParts) → IsScene s → AreBound s
bound s scene = record {
  few = scene.few_agents;
  few_dispatchers = scene.few_dispatchers;
  groups = scene.all_groups;
  few_groups = few_groups s scene;
  agents = λ a l. (scene.agents a.0 no_agent l).disp;
}

-- ---- queues

and_both : (a b : Bool) → (a && b) ≡ true → (a ≡ true) × (b ≡ true)
and_both true b is = (refl, is)
and_both false b is = cc

or_first : (a b : Bool) → a ≡ true → (a || b) ≡ true
or_first true b is = refl
or_first false b is = cc

or_second : (a b : Bool) → b ≡ true → (a || b) ≡ true
or_second true b is = refl
or_second false b is = is

queue_with : ℕ → Part → Queue
queue_with d p = record { disp = record { 0 = d }; part = p }

same_number : (n : ℕ) → (n == n) ≡ true
same_number n = eq-eqb n n refl

pub same_part-refl : (p : Part) → same_part p p ≡ true
same_part-refl part.Whole = refl
same_part-refl (part.Own a) = same_number a.0
same_part-refl (part.Group g) = same_number g
same_part-refl (part.Coop c) = same_number c.0
same_part-refl (part.Prio p) = same_number p

pub same_queue-refl : (q : Queue) → same_queue q q ≡ true
same_queue-refl q = rw (same_number q.disp.0, same_part-refl q.part) refl

pub same_part-eq : (p q : Part) → same_part p q ≡ true → p ≡ q
same_part-eq part.Whole part.Whole is = refl
same_part-eq part.Whole (part.Own b) is = cc
same_part-eq part.Whole (part.Group b) is = cc
same_part-eq part.Whole (part.Coop b) is = cc
same_part-eq part.Whole (part.Prio b) is = cc
same_part-eq (part.Own a) part.Whole is = cc
same_part-eq (part.Own a) (part.Own b) is = ap (λ n. part.Own (record { 0 = n })) (exact_unsigned_eq a.0 b.0 is)
same_part-eq (part.Own a) (part.Group b) is = cc
same_part-eq (part.Own a) (part.Coop b) is = cc
same_part-eq (part.Own a) (part.Prio b) is = cc
same_part-eq (part.Group a) part.Whole is = cc
same_part-eq (part.Group a) (part.Own b) is = cc
same_part-eq (part.Group a) (part.Group b) is = ap part.Group (exact_unsigned_eq a b is)
same_part-eq (part.Group a) (part.Coop b) is = cc
same_part-eq (part.Group a) (part.Prio b) is = cc
same_part-eq (part.Coop a) part.Whole is = cc
same_part-eq (part.Coop a) (part.Own b) is = cc
same_part-eq (part.Coop a) (part.Group b) is = cc
same_part-eq (part.Coop a) (part.Coop b) is = ap (λ n. part.Coop (record { 0 = n })) (exact_unsigned_eq a.0 b.0 is)
same_part-eq (part.Coop a) (part.Prio b) is = cc
same_part-eq (part.Prio a) part.Whole is = cc
same_part-eq (part.Prio a) (part.Own b) is = cc
same_part-eq (part.Prio a) (part.Group b) is = cc
same_part-eq (part.Prio a) (part.Coop b) is = cc
same_part-eq (part.Prio a) (part.Prio b) is = ap part.Prio (exact_unsigned_eq a b is)

pub same_queue-eq : (q r : Queue) → same_queue q r ≡ true → q ≡ r
unfolding queue_with
same_queue-eq q r is =
    let parts = and_both (q.disp.0 == r.disp.0) (same_part q.part r.part) is in
    let disp : q.disp.0 ≡ r.disp.0 = exact_unsigned_eq q.disp.0 r.disp.0 parts.0 in
    let part : q.part ≡ r.part = same_part-eq q.part r.part parts.1 in
    ap (λ n. queue_with n q.part) disp ∙ ap (queue_with r.disp.0) part

-- ---- a layout tells of the scene

pub lane_there : (s p : SceneParts) (xs : List Lane) (lane : LaneId) → s ≡ p → xs ≡ lane_list p → lane.0 < lanes s → lane.0 < length xs
unfolding lanes
lane_there s p xs lane same is l = omega (arith, ap (λ x. length (lane_list x)) same, ap length is, l)

pub agent_there : {X : Type 0} (s p : SceneParts) (xs : List X) (n : ℕ) → s ≡ p → length xs ≡ length p.agents → n < length s.agents → n < length xs
agent_there s p xs n same is l = omega (arith, ap (λ (x : SceneParts). length x.agents) same, is, l)

pub length-queues : (s : SceneParts) → length (queues s) ≡ length s.agents
unfolding queues
length-queues s = length-each_below (queue_at s) (length s.agents)

pub queue_of-queues : (s : SceneParts) (a : AgentId) → a.0 < length s.agents → slice_index_or (queues s) a.0 no_queue ≡ queue_of s a
unfolding queues
queue_of-queues s a l = get_or-each_below (queue_at s) (length s.agents) a.0 no_queue l

-- an agent's queue is numbered by an agent whose events stand in it
pub record HasKey (s : SceneParts) (a : AgentId) : Type 0 where
  pub in_range : (key_of s a).0 < length s.agents
  pub same : queue_at s (key_of s a).0 ≡ queue_of s a

queue_any : (s : SceneParts) (a : AgentId) → a.0 < length s.agents → list_any (same_queue (queue_of s a)) (queues s) ≡ true
unfolding queues
queue_any s a l = any-each_below (same_queue (queue_of s a)) (queue_at s) (length s.agents) a.0 l (same_queue-refl (queue_of s a))

has_key : (s : SceneParts) (a : AgentId) (k : ℕ) → position (same_queue (queue_of s a)) (queues s) ≡ Some k → HasKey s a
unfolding key_of
has_key s a k is =
    let found = position-Some (same_queue (queue_of s a)) (queues s) k no_queue is in
    let number : unwrap_or (position (same_queue (queue_of s a)) (queues s)) 0 ≡ k = ap (λ o. unwrap_or o 0) is in
    let within : k < length s.agents = omega (arith, found.0, length-queues s) in
    let its : slice_index_or (queues s) k no_queue ≡ queue_at s k = queue_of-queues s (record { 0 = k }) within in
    record {
      in_range = omega (arith, number, within);
      same = ap (queue_at s) number ∙ sym its ∙ sym (same_queue-eq (queue_of s a) (slice_index_or (queues s) k no_queue) found.1);
    }

pub its_key : (s : SceneParts) (a : AgentId) → a.0 < length s.agents → HasKey s a
its_key s a l = has_key s a (position_or_len (same_queue (queue_of s a)) (queues s)) (position-some (same_queue (queue_of s a)) (queues s) (queue_any s a l))

-- agents share a number exactly where they share a queue
pub same_key : (s : SceneParts) (a b : AgentId) → a.0 < length s.agents → b.0 < length s.agents → key_of s a ≡ key_of s b → queue_of s a ≡ queue_of s b
same_key s a b l m is = sym (its_key s a l).same ∙ ap (λ (k : KeyId). queue_at s k.0) is ∙ (its_key s b m).same

pub same_queue-key : (s : SceneParts) (a b : AgentId) → queue_of s a ≡ queue_of s b → key_of s a ≡ key_of s b
unfolding key_of
same_queue-key s a b is = ap (λ q. record { 0 = unwrap_or (position (same_queue q) (queues s)) 0 }) is

pub key_in_range : (s : SceneParts) (a : AgentId) → a.0 < length s.agents → (key_of s a).0 < keys s
unfolding keys
key_in_range s a l = (its_key s a l).in_range

first_place-key : (s : SceneParts) (k : ℕ) → k < length s.agents → first_place (queues s) k ≡ key_at s k
unfolding key_of
first_place-key s k l = ap (λ q. record { 0 = unwrap_or (position (same_queue q) (queues s)) 0 }) (queue_of-queues s (record { 0 = k }) l)

pub numbered-queues : (s : SceneParts) → numbered (queues s) ≡ each_below (key_at s) (length s.agents)
numbered-queues s = rw (length-queues s) (each_below-same (first_place (queues s)) (key_at s) (length s.agents) (first_place-key s))

-- ---- each queue is served by a lane

pub record SomeLane (s : SceneParts) (a : AgentId) : Type 0 where
  pub lane : LaneId
  pub in_range : lane.0 < lanes s
  pub serves : serves s lane (key_of s a) ≡ true

-- the lanes of a dispatcher serve the queue of each agent bound to it
shared_serves : (d : DispId) (p : Part) → serves_queue (shared_lane d) (record { disp = d; part = p }) ≡ true
shared_serves d p = rw (same_number d.0) refl

own_serves : (d : DispId) (p : Part) → serves_queue (own_lane d p) (record { disp = d; part = p }) ≡ true
own_serves d p = both_true (same_number d.0) (same_part-refl p)

abbrev some : Queue → List Lane → Bool
some q xs = list_any (λ lane. serves_queue lane q) xs

some_shared : (d : DispId) (p : Part) (threads : ℕ) → 1 ≤ threads → some (record { disp = d; part = p }) (replicate threads (shared_lane d)) ≡ true
some_shared d p zero few = absurd (omega (arith, few))
some_shared d p (suc n) few = rw (shared_serves d p) refl

some_own : (s : SceneParts) (d : DispId) (a : AgentId) → a.0 < length s.agents → is_bound s d a ≡ true →
    some (record { disp = d; part = part.Own a }) (map (agent_lane d) (bound_to s d)) ≡ true
some_own s d a l is =
    any-filter (is_bound s d) (λ lane. serves_queue lane (record { disp = d; part = part.Own a })) (agent_lane d) (each_below agent_number (length s.agents))
    ∙ any-each_below (λ b. is_bound s d b && serves_queue (agent_lane d b) (record { disp = d; part = part.Own a })) agent_number (length s.agents) a.0 l (both_true is (own_serves d (part.Own a)))

some_group : (s : SceneParts) (d : DispId) (o : Option ℕ) → IsGroup ActiveGroup (length (groups_of s d)) o →
    some (record { disp = d; part = part.Group (unwrap_or o 0) }) (each_below (group_lane d) (length (groups_of s d))) ≡ true
some_group s d None is = absurd is
some_group s d (Some g) is = any-each_below (λ lane. serves_queue lane (record { disp = d; part = part.Group g })) (group_lane d) (length (groups_of s d)) g is (own_serves d (part.Group g))

some_priority : (d : DispId) (p : Priority) → some (record { disp = d; part = part.Prio p.level }) (each_below (priority_lane d) 8) ≡ true
some_priority d p =
    let its : 7 - (7 - p.level) ≡ p.level = omega (arith, p.in_range) in
    let serves : serves_queue (priority_lane d (7 - p.level)) (record { disp = d; part = part.Prio p.level }) ≡ true = ap (λ n. serves_queue (own_lane d (part.Prio n)) (record { disp = d; part = part.Prio p.level })) its ∙ own_serves d (part.Prio p.level) in
    any-each_below (λ lane. serves_queue lane (record { disp = d; part = part.Prio p.level })) (priority_lane d) 8 (7 - p.level) (omega arith) serves

some_of : (s : SceneParts) (d : DispId) (a : AgentId) (kind : DispKind) (fifo : Fifo) (threads : ℕ) → a.0 < length s.agents → is_bound s d a ≡ true → 1 ≤ threads → IsGroup kind (length (groups_of s d)) (agent_of s a).group
    → some (record { disp = d; part = part_by kind fifo a (agent_of s a) }) (lanes_by s d kind threads) ≡ true
some_of s d a OneThread fifo threads l is few group = rw (shared_serves d part.Whole) refl
some_of s d a ActiveObj fifo threads l is few group = some_own s d a l is
some_of s d a ActiveGroup fifo threads l is few group = some_group s d (agent_of s a).group group
some_of s d a ThreadPool fifo threads l is few group = some_shared d (part_in_pool fifo a (agent_of s a)) threads few
some_of s d a AdvThreadPool fifo threads l is few group = some_shared d (part_in_pool fifo a (agent_of s a)) threads few
some_of s d a StrictlyOrdered fifo threads l is few group = rw (shared_serves d part.Whole) refl
some_of s d a QuotedRoundRobin fifo threads l is few group = rw (shared_serves d part.Whole) refl
some_of s d a OnePerPrio fifo threads l is few group = some_priority d (agent_of s a).priority

-- the lanes of one dispatcher are among all
some_among : (s : SceneParts) (q : Queue) (d n : ℕ) → d < n → some q (lanes_of s (record { 0 = d })) ≡ true → some q (lanes_to s n) ≡ true
some_among s q d zero l is = absurd (omega (arith, l))
some_among s q d (suc n) l is =
    rw (list_any-append (λ lane. serves_queue lane q) (lanes_to s n) (lanes_of s (record { 0 = n })))
    (elim (cases_lt d n) [
      | inl earlier ↦ or_first (some q (lanes_to s n)) (some q (lanes_of s (record { 0 = n }))) (some_among s q d n earlier is)
      | inr later ↦ let same : d ≡ n = omega (arith, l, later) in or_second (some q (lanes_to s n)) (some q (lanes_of s (record { 0 = n }))) (ap (λ k. some q (lanes_of s (record { 0 = k }))) (sym same) ∙ is)
    ])

served : (s : SceneParts) (a : AgentId) → IsScene s → a.0 < length s.agents → some (queue_of s a) (lane_list s) ≡ true
unfolding lane_list
served s a scene l =
    let its = scene.agents a.0 no_agent l in
    let disp = scene.dispatchers (agent_of s a).disp.0 default_disp its.disp in
    some_among s (queue_of s a) (agent_of s a).disp.0 (length s.dispatchers) its.disp
    (some_of s (agent_of s a).disp a (disp_of s (agent_of s a).disp).kind (disp_of s (agent_of s a).disp).fifo (disp_of s (agent_of s a).disp).threads l (same_number (agent_of s a).disp.0) disp.some_threads its.group)

at_place : (s : SceneParts) (a : AgentId) (k : ℕ) (x : Lane) → a.0 < length s.agents → k < length (lane_list s) → slice_index_or (lane_list s) k x ≡ x → serves_queue x (queue_of s a) ≡ true → SomeLane s a
unfolding lanes serves
at_place s a k x l within here is = record {
  lane = record { 0 = k };
  in_range = within;
  serves = ap (λ y. serves_queue y (queue_at s (key_of s a).0)) (get_or_default (lane_list s) k no_lane x within ∙ here) ∙ ap (serves_queue x) (its_key s a l).same ∙ is;
}

pub some_lane : (s : SceneParts) (a : AgentId) → IsScene s → a.0 < length s.agents → SomeLane s a
some_lane s a scene l =
    let any = Any-from_list_any (λ lane. serves_queue lane (queue_of s a)) (lane_list s) (served s a scene l) in
    at_place s a any.0 any.1 l any.2 any.3 any.4

pub length-keys : (s : SceneParts) (xs : List KeyId) → xs ≡ each_below (key_at s) (length s.agents) → length xs ≡ length s.agents
length-keys s xs is = ap length is ∙ length-each_below (key_at s) (length s.agents)

pub key-keys : (s p : SceneParts) (xs : List KeyId) (a : AgentId) → s ≡ p → xs ≡ each_below (key_at p) (length p.agents) → a.0 < length s.agents →
    slice_index_or xs a.0 no_key ≡ key_of s a
key-keys s p xs a same is l =
    let within : a.0 < length p.agents = omega (arith, ap (λ (x : SceneParts). length x.agents) same, l) in
    ap (λ ys. slice_index_or ys a.0 no_key) is ∙ get_or-each_below (key_at p) (length p.agents) a.0 no_key within ∙ ap (λ x. key_of x a) (sym same)

pub queues-queue : (s p : SceneParts) (xs : List Queue) (a : AgentId) → s ≡ p → xs ≡ queues p → a.0 < length s.agents → slice_index_or xs a.0 no_queue ≡ queue_of s a
queues-queue s p xs a same is l = ap (λ ys. slice_index_or ys a.0 no_queue) (is ∙ ap queues (sym same)) ∙ queue_of-queues s a l
