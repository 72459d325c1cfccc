use Rattle.so_scene_passes.proofs.Shapes.{known_stop, known_go, known_end}
use Rattle.so_scene_passes.proofs.shape.is_a_key.Goals as goal

pub returns-then-eq : goal.returns-then-eq
returns-then-eq c = known_stop _ _ _ _ _ _ _ c.loop-rule-test.true c.loop-rule.invariant c.key.ensures.key c.eq.ensures c.if-eq.true

pub loop-rule-preserved : goal.loop-rule-preserved
loop-rule-preserved c = known_go _ _ _ _ _ _ _ c.loop-rule-test.true c.loop-rule.invariant c.key.ensures.key c.eq.ensures c.if-eq.false

pub returns : goal.returns
returns c = known_end _ _ _ _ c.loop-rule-test.false c.loop-rule.invariant
