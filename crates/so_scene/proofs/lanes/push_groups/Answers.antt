use Rattle.std.proofs.Common.{sym, ◌∙◌}
use Rattle.std.proofs.lemmas.List.{append-nil}
use Rattle.so_lists.proofs.EachBelow.{each_below-none, each_below-pushed}
use Rattle.so_scene.specs.Lanes.{group_lane}
use Rattle.so_scene.proofs.lanes.push_groups.Goals as goal

pub loop-k-init : goal.loop-k-init
loop-k-init c = rw (each_below-none (group_lane c.args.disp)) (sym (append-nil c.args.lanes.now.items))

pub loop-k-preserved : goal.loop-k-preserved
loop-k-preserved c = c.in_ok-push_lane.ensures ∙ each_below-pushed (group_lane c.args.disp) c.loop-k.k c.args.lanes.now.items c.loop-k.lanes.items c.loop-k.invariant
