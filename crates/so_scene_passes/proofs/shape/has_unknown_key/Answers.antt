use Rattle.so_scene_passes.proofs.Shapes.{unknown_stop, unknown_go, unknown_end}
use Rattle.so_scene_passes.proofs.shape.has_unknown_key.Goals as goal

pub returns-then-not-is_a_key : goal.returns-then-not-is_a_key
returns-then-not-is_a_key c = unknown_stop _ c.is_a_key.result _ _ _ _ _ _ c.loop-name.invariant c.in-Some.ensures.steps c.as_str.ensures.value c.is_a_key.ensures c.if-not-is_a_key.true

pub loop-name-preserved : goal.loop-name-preserved
loop-name-preserved c = unknown_go _ c.is_a_key.result _ _ _ _ _ _ c.loop-name.invariant c.in-Some.ensures.steps c.as_str.ensures.value c.is_a_key.ensures c.if-not-is_a_key.false

pub returns : goal.returns
returns c = unknown_end _ _ _ c.loop-name.invariant c.in-None.ensures.steps.0
