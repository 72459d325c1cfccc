use Rattle.std.proofs.Common.{get_or, ◌∙◌}
use Rattle.std.proofs.lemmas.List.Folds.{list_any_more, list_any_at}
use Rattle.so_state.specs.Choice.{is_for}
use Rattle.so_mbox.proofs.BoardLaws.{blank, enter_step, note_room, for_within, for_itself}
use Rattle.so_mbox.proofs.boards.Boards.enter.Goals as goal

pub note-requires-clause-room : goal.note-requires-clause-room
note-requires-clause-room c =
    let row = get_or c.args.rows.now c.loop-row.row-index _ in
    let within = c.requires.within c.loop-row.row-index _ c.loop-row-test.true in
    note_room c.args.agent _ _ _ _ _ (c.loop-row.invariant.agents row.mbox row.msg) (c.loop-row.invariant.rooms row.mbox row.msg)
    (c.requires.room row.mbox row.msg within (list_any_at (is_for row.mbox row.msg) c.args.rows.now c.loop-row.row-index _ c.loop-row-test.true (for_itself row)))

pub loop-row-preserved : goal.loop-row-preserved
loop-row-preserved c = record {
  count = c.note.ensures.boards ∙ c.loop-row.invariant.count;
  agents = λ mbox msg. rw (list_any_more (is_for mbox msg) c.args.rows.now c.loop-row.row-index blank c.loop-row-test.true)
      (enter_step c.args.agent _ _ _ _ _ (λ t. c.requires.new mbox msg (for_within _ mbox msg (get_or c.args.rows.now c.loop-row.row-index blank) t (c.requires.within c.loop-row.row-index _ c.loop-row-test.true))) (c.loop-row.invariant.agents mbox msg) (c.note.ensures.agents mbox msg));
  rooms = λ mbox msg. c.note.ensures.room mbox msg ∙ c.loop-row.invariant.rooms mbox msg;
}
