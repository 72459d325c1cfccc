use Rattle.std.proofs.Common.{sym, ◌∙◌}
use Rattle.std.proofs.lemmas.List.{append-nil}
use Rattle.so_scene.proofs.LaneLaws.{bound_lanes-none, bound_lanes-more, bound_lanes-same}
use Rattle.so_scene.proofs.lanes.push_agents.Goals as goal
use Rattle.so_scene.proofs.lanes.push_agents.Goals.{then-is_bound+in_ok-push_lane, else-is_bound}

pub loop-k-init : goal.loop-k-init
loop-k-init c = rw (bound_lanes-none c.args.parts.now c.args.disp) (sym (append-nil c.args.lanes.now.items))

pub loop-k-preserved : goal.loop-k-preserved
loop-k-preserved c =
    elim c.if-is_bound.branch [
      | then-is_bound+in_ok-push_lane w ↦ rw w.lanes-is (w.in_ok-push_lane.ensures ∙ bound_lanes-more c.args.parts.now c.args.disp c.loop-k.k c.args.lanes.now.items c.loop-k.lanes.items (sym c.is_bound.ensures ∙ w.if-is_bound.true) c.loop-k.invariant)
      | else-is_bound w ↦ rw w.lanes-is (bound_lanes-same c.args.parts.now c.args.disp c.loop-k.k c.args.lanes.now.items c.loop-k.lanes.items (sym c.is_bound.ensures ∙ w.if-is_bound.false) c.loop-k.invariant)
    ]
