use Rattle.std.proofs.Common.{sym, ◌∙◌}
use Rattle.so_scene_build.proofs.Grouped.{names_start, names_go, names_end}
use Rattle.so_scene_build.proofs.Written.{ok_same}
use Rattle.so_scene_build.proofs.groups.names_for.Goals as goal

pub loop-group-init : goal.loop-group-init
loop-group-init c = c.new-names.ensures ∙ sym (names_start c.args.disp)

pub loop-group-preserved : goal.loop-group-preserved
loop-group-preserved c = names_go _ _ _ _ _ _ _ c.loop-group-test.true c.group-item.is c.loop-group.invariant (ok_same _ _ c.in_ok-push_if.ensures)

pub returns : goal.returns
returns c = names_end _ _ _ _ c.loop-group-test.false c.loop-group.invariant
