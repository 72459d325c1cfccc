use Rattle.std.proofs.Common.{◌∙◌}
use Rattle.std.proofs.lemmas.List.Folds.{list_any_more}
use Rattle.so_state.specs.Choice.{is_for}
use Rattle.so_scene.specs.Parts.{agents_from}
use Rattle.so_mbox.specs.Table.{is_none_of}
use Rattle.so_mbox.proofs.BoardLaws.{blank, leave_step}
use Rattle.so_mbox.proofs.boards.Boards.leave_out.Goals as goal

pub loop-row-preserved : goal.loop-row-preserved
loop-row-preserved c = record {
  count = c.strike.ensures.boards ∙ c.loop-row.invariant.count;
  agents = λ mbox msg. rw (list_any_more (is_for mbox msg) c.args.rows.now c.loop-row.row-index blank c.loop-row-test.true)
      (leave_step (is_none_of (agents_from c.args.first c.args.count)) _ _ _ _ _ (c.loop-row.invariant.agents mbox msg) (c.strike.ensures.agents mbox msg));
  rooms = λ mbox msg. c.strike.ensures.room mbox msg ∙ c.loop-row.invariant.rooms mbox msg;
}
