use Rattle.std.proofs.Common.{ap, map, ◌∙◌}
use Rattle.serde_json.specs.Data.{array}
use Rattle.serde_json.specs.View.{items_of}
use Rattle.serde_json.proofs.Views.{view-Array}
use Rattle.so_scene_data.specs.Canonical.{row_data}
use Rattle.so_scene_data.specs.Sources.{rows_in}
use Rattle.so_scene_writer.proofs.Listed.{rows_more, rows_done}
use Rattle.so_scene_writer.proofs.agents.rows_value.Goals as goal

pub loop-k-preserved : goal.loop-k-preserved
loop-k-preserved c =
    rows_more c.args.scene.now c.args.agent.now (map (row_data c.args.scene.now c.args.agent.now) (rows_in c.args.ids.now c.args.rows.now c.args.code.now)) c.loop-k.list.items _ c.args.ids.now c.args.rows.now c.least-k-end.result c.loop-k.k _ _ _ _ _ _
    c.index-ids-k.is c.least-k-end.ensures c.loop-k-test.true c.loop-k.invariant c.in_ok-row_value.ensures c.in_ok-push.ensures.items c.behind_row-left.ensures

pub returns : goal.returns
returns c =
    view-Array c.loop-k.list ∙ ap (λ ds. array (items_of ds))
    (rows_done c.args.scene.now c.args.agent.now (map (row_data c.args.scene.now c.args.agent.now) (rows_in c.args.ids.now c.args.rows.now c.args.code.now)) c.loop-k.list.items c.args.ids.now c.args.rows.now c.least-k-end.result c.loop-k.k c.loop-k.left.now c.least-k-end.ensures c.loop-k-test.false c.loop-k.invariant)
