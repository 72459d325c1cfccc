use Rattle.std.proofs.Common.{sym, refl, ◌∙◌}
use Rattle.so_scene_writer.proofs.Listed.{behind_go, behind_stop, behind_none}
use Rattle.so_scene_writer.proofs.acts.behind.Goals as goal

pub returns-then-is_end : goal.returns-then-is_end
returns-then-is_end c = c.past.ensures ∙ sym (behind_stop c.args.code.now c.loop-at.at _ _ c.loop-at-test.true refl (sym c.is_end.ensures ∙ c.if-is_end.true)) ∙ c.loop-at.invariant

pub loop-at-preserved : goal.loop-at-preserved
loop-at-preserved c = sym (behind_go c.args.code.now c.loop-at.at _ _ c.loop-at-test.true refl (sym c.is_end.ensures ∙ c.if-is_end.false)) ∙ c.loop-at.invariant

pub returns : goal.returns
returns c = sym (behind_none c.args.code.now c.loop-at.at c.loop-at-test.false) ∙ c.loop-at.invariant
