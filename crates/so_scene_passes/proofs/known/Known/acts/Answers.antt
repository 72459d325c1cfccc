use Rattle.std.proofs.Common.{ℕ, rules}
use Rattle.serde_json.specs.Data.{Data}
use Rattle.so_scene_passes.specs.Known.{act_unknown}
use Rattle.so_scene_passes.proofs.Shapes.{acts_stop, acts_go, acts_end}
use Rattle.so_scene_passes.proofs.known.Known.acts.Goals as goal

pub returns-in-Some : goal.returns-in-Some
returns-in-Some c = acts_stop _ (λ (rest : ℕ) (d : Data). act_unknown c.args.self.now d) _ c.step.result _ _ _ _ c.act.result _ _ c.loop-i-test.true c.index-list-i.is c.loop-i.invariant c.act.ensures c.in-Some.is (search rules) c.fault_at.ensures

pub loop-i-preserved : goal.loop-i-preserved
loop-i-preserved c = acts_go _ (λ (rest : ℕ) (d : Data). act_unknown c.args.self.now d) _ _ _ _ _ c.act.result c.loop-i-test.true c.index-list-i.is c.loop-i.invariant c.act.ensures c.in-None.is

pub returns : goal.returns
returns c = acts_end _ (λ (rest : ℕ) (d : Data). act_unknown c.args.self.now d) _ _ _ c.loop-i-test.false c.loop-i.invariant
