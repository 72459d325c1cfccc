use Rattle.std.proofs.Common.{◌≡◌, ◌++◌, map}
use Rattle.std.specs.List.{filter}
use Rattle.so_lists.specs.Lists.{each_below}
use Rattle.so_scene.specs.Lanes.{agent_lane, is_bound, agent_number}
use Rattle.so_scene.proofs.lanes.push_agents.Given as goal

abbrev pub invariant-loop-k : goal.invariant-loop-k
invariant-loop-k l = l.lanes.items ≡ l.initial.lanes.items ++ map (agent_lane l.fn.disp) (filter (is_bound l.fn.parts l.fn.disp) (each_below agent_number l.k))
