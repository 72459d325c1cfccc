use Rattle.std.proofs.Common.{◌+◌, length, arith, ◌∙◌, ap}
use Rattle.so_scene.specs.Parts.{agents_from}
use Rattle.so_scene.specs.declared.parts.SceneParts.{SceneParts}
use Rattle.so_mbox.specs.Table.{Subscriptions, is_entered, after_enter}
use Rattle.so_tables.proofs.MboxLaws.{entered_none, entered_next, scene-entered, not_entered}
use Rattle.so_tables.proofs.absorb.mboxes.enter_each.Goals as goal

pub loop-k-init : goal.loop-k-init
loop-k-init c = entered_none c.args.first c.args.mboxes.now

pub enter-requires-clause-agent : goal.enter-requires-clause-agent
enter-requires-clause-agent c =
    let scene = ap (λ (m : Subscriptions). length m.scene.agents) c.loop-k.invariant ∙ ap (λ (s : SceneParts). length s.agents) (scene-entered (agents_from c.args.first c.loop-k.k) c.args.mboxes.now) in
    omega (arith, scene, c.requires.range, c.loop-k-test.true)

pub enter-requires-clause-new : goal.enter-requires-clause-new
enter-requires-clause-new c = ap (λ m. is_entered m (record { 0 = c.args.first.0 + c.loop-k.k })) c.loop-k.invariant ∙ not_entered c.args.first c.args.count c.loop-k.k c.args.mboxes.now (omega (arith, c.loop-k-test.true)) c.requires.nobody

pub loop-k-preserved : goal.loop-k-preserved
loop-k-preserved c = c.enter.ensures ∙ (ap (after_enter (record { 0 = c.args.first.0 + c.loop-k.k })) c.loop-k.invariant ∙ entered_next c.args.first c.loop-k.k c.args.mboxes.now)
