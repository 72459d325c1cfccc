use Rattle.std.proofs.Common.{refl, ◌∙◌}
use Rattle.so_scene.specs.Parts.{agents_from}
use Rattle.so_mbox.specs.Table.{is_none_of, has_row}
use Rattle.so_mbox.proofs.BoardLaws.{leave_step, any-next, any-none}
use Rattle.so_mbox.proofs.boards.Boards.leave.Goals as goal

pub loop-k-init : goal.loop-k-init
loop-k-init c = record {
  count = refl;
  agents = λ mbox msg. rw (any-none (has_row c.args.scene.now mbox msg) c.args.first) refl;
  rooms = λ mbox msg. refl;
}

pub loop-k-preserved : goal.loop-k-preserved
loop-k-preserved c = record {
  count = c.leave_out.ensures.boards ∙ c.loop-k.invariant.count;
  agents = λ mbox msg. rw (any-next (has_row c.args.scene.now mbox msg) c.args.first c.loop-k.k)
      (leave_step (is_none_of (agents_from c.args.first c.args.count)) _ _ _ _ _ (c.loop-k.invariant.agents mbox msg) (rw c.rows_of.ensures.value at (c.leave_out.ensures.agents mbox msg)));
  rooms = λ mbox msg. c.leave_out.ensures.room mbox msg ∙ c.loop-k.invariant.rooms mbox msg;
}
