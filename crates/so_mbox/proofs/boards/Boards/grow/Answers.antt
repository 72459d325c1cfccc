use Rattle.std.proofs.Common.{◌∙◌}
use Rattle.std.proofs.lemmas.List.Folds.{list_any_more}
use Rattle.so_state.specs.Choice.{is_for}
use Rattle.so_mbox.proofs.BoardLaws.{blank, grow_step}
use Rattle.so_mbox.proofs.boards.Boards.grow.Goals as goal

pub loop-row-preserved : goal.loop-row-preserved
loop-row-preserved c = record {
  count = c.in_ok-make_room.ensures.boards ∙ c.loop-row.invariant.count;
  none = λ mbox msg. c.in_ok-make_room.ensures.agents mbox msg ∙ c.loop-row.invariant.none mbox msg;
  rooms = λ mbox msg. rw (list_any_more (is_for mbox msg) c.args.rows.now c.loop-row.row-index blank c.loop-row-test.true)
      (grow_step _ _ _ _ _ (c.loop-row.invariant.rooms mbox msg) (c.in_ok-make_room.ensures.room mbox msg));
}
