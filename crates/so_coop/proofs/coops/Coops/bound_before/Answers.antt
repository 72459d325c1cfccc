use Rattle.std.proofs.Common.{arith, sym, ap, subst, ◌∙◌}
use Rattle.so_lists.proofs.Counts.{count-none, count-more, count-same}
use Rattle.so_scene.specs.Lanes.{is_bound}
use Rattle.so_scene.specs.Checked.{IsScene}
use Rattle.so_scene.proofs.AgentLaws.{coop_within}
use Rattle.so_coop.specs.Coops.{CoopTable, agent_at}
use Rattle.so_coop.proofs.coops.Coops.bound_before.Goals as goal
use Rattle.so_coop.proofs.coops.Coops.bound_before.Goals.{then-is_bound, else-is_bound}

pub loop-k-init : goal.loop-k-init
loop-k-init c = record { counted = sym (count-none (is_bound c.args.self.now.scene c.args.disp) (agent_at c.args.self.now.scene c.args.coop)); few = omega arith }

pub loop-k-preserved : goal.loop-k-preserved
loop-k-preserved c =
    elim c.if-is_bound.branch [
      | then-is_bound w ↦
          (let more = count-more (is_bound c.args.self.now.scene c.args.disp) (agent_at c.args.self.now.scene c.args.coop) c.loop-k.k (ap (is_bound c.args.self.now.scene c.args.disp) (sym c.agent_at.ensures.value) ∙ sym c.is_bound.ensures ∙ w.if-is_bound.true) in
          record { counted = omega (arith, w.bound-is, more, c.loop-k.invariant.counted); few = omega (arith, w.bound-is, c.loop-k.invariant.few) })
      | else-is_bound w ↦
          (let same = count-same (is_bound c.args.self.now.scene c.args.disp) (agent_at c.args.self.now.scene c.args.coop) c.loop-k.k (ap (is_bound c.args.self.now.scene c.args.disp) (sym c.agent_at.ensures.value) ∙ sym c.is_bound.ensures ∙ w.if-is_bound.false) in
          record { counted = omega (arith, w.bound-is, same, c.loop-k.invariant.counted); few = omega (arith, w.bound-is, c.loop-k.invariant.few) })
    ]

pub returns-clause-few : goal.returns-clause-few
returns-clause-few c =
    let scene = subst IsScene (ap (λ (t : CoopTable). t.scene) c.self.view_is) c.parts-parts.ensures.keeps in
    let within = coop_within c.args.self.now.scene c.args.coop scene c.requires.coop in
    omega (arith, within, scene.few_agents, c.loop-k.invariant.few, c.loop-k.auto.k-end, c.requires.agents)
