use Rattle.std.proofs.Common.{◌≡◌, ◌<◌, ◌≤◌, ℕ, ◌+◌, length}
use Rattle.so_lists.specs.Lists.{each_below}
use Rattle.so_ring.specs.Ring.{agent_in_ring}
use Rattle.so_ring.proofs.agents.agents_of.Given as goal

abbrev pub invariant-loop-k : goal.invariant-loop-k
invariant-loop-k l = l.agents ≡ each_below (agent_in_ring l.fn.count) l.k
