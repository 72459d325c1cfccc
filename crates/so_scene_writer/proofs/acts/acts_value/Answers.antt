use Rattle.std.proofs.Common.{sym, refl, ap, ◌++◌, ◌∙◌, map}
use Rattle.serde_json.specs.Data.{array}
use Rattle.serde_json.specs.View.{view, items_of}
use Rattle.serde_json.proofs.Views.{view-Array}
use Rattle.so_scene_data.specs.ActData.{act_data}
use Rattle.so_scene_data.specs.Sources.{acts_in}
use Rattle.so_scene_writer.proofs.Listed.{rest_more, rest_done, acts_go, acts_stop, acts_none}
use Rattle.so_scene_writer.proofs.acts.acts_value.Goals as goal

pub returns-then-is_end : goal.returns-then-is_end
returns-then-is_end c =
    view-Array c.loop-instr.list ∙ ap (λ ds. array (items_of ds))
    (rest_done (act_data c.args.scene.now c.args.agent.now) (map (act_data c.args.scene.now c.args.agent.now) (acts_in c.args.code.now)) c.loop-instr.list.items _
    (acts_stop c.args.code.now c.loop-instr.instr-index _ _ c.loop-instr-test.true refl (sym c.is_end.ensures ∙ c.if-is_end.true)) c.loop-instr.invariant)

pub loop-instr-preserved : goal.loop-instr-preserved
loop-instr-preserved c =
    rest_more (act_data c.args.scene.now c.args.agent.now) (map (act_data c.args.scene.now c.args.agent.now) (acts_in c.args.code.now)) c.loop-instr.list.items _ _ _ _
    (ap (λ xs. map view c.loop-instr.list.items ++ map (act_data c.args.scene.now c.args.agent.now) xs) (sym (acts_go c.args.code.now c.loop-instr.instr-index _ _ c.loop-instr-test.true refl (sym c.is_end.ensures ∙ c.if-is_end.false))) ∙ c.loop-instr.invariant)
    c.in_ok-act_value.ensures c.in_ok-push.ensures.items

pub returns : goal.returns
returns c =
    view-Array c.loop-instr.list ∙ ap (λ ds. array (items_of ds))
    (rest_done (act_data c.args.scene.now c.args.agent.now) (map (act_data c.args.scene.now c.args.agent.now) (acts_in c.args.code.now)) c.loop-instr.list.items _ (acts_none c.args.code.now c.loop-instr.instr-index c.loop-instr-test.false) c.loop-instr.invariant)
