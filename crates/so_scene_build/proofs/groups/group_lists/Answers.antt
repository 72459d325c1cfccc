use Rattle.std.proofs.Common.{sym, ◌∙◌}
use Rattle.so_scene_build.proofs.Grouped.{lists_start, lists_go}
use Rattle.so_scene_build.proofs.Written.{ok_same}
use Rattle.so_scene_build.proofs.groups.group_lists.Goals as goal

pub loop-k-init : goal.loop-k-init
loop-k-init c = c.new-lists.ensures ∙ sym (lists_start c.args.groups.now)

pub loop-k-preserved : goal.loop-k-preserved
loop-k-preserved c = lists_go _ c.loop-k.k _ _ _ c.loop-k.invariant c.in_ok-names.ensures (ok_same _ _ c.in_ok-push_list.ensures)
