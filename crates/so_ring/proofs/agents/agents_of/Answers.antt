use Rattle.std.proofs.Common.{rules, ◌≡◌, ◌<◌, ◌≤◌, IfOk, ℕ, ◌+◌, length, Bool, true, false, List, [], ◌∷◌, ◌++◌, sym, ap, ◌∙◌, subst, arith, refl}
use Rattle.so_lists.proofs.EachBelow.{each_below-none, each_below-next}
use Rattle.so_ring.specs.Ring.{agent_in_ring, ring_agents}
use Rattle.so_ring.proofs.RingLaws.{all_agents}
use Rattle.so_ring.proofs.agents.agents_of.Goals as goal

-- src/agents.rt:24:5
pub loop-k-init : goal.loop-k-init
loop-k-init c = rw (each_below-none (agent_in_ring c.args.count)) c.new-agents.ensures

-- src/agents.rt:24:5
pub loop-k-preserved : goal.loop-k-preserved
loop-k-preserved c = rw (each_below-next (agent_in_ring c.args.count) c.loop-k.k, c.in_ok-push.ensures.ok, c.loop-k.invariant, c.in_ok-agent_of.ensures) refl

-- src/agents.rt:18:1
pub returns : goal.returns
returns c = rw (all_agents c.args.count) (search rules)
