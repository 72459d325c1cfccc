use Rattle.std.proofs.Common.{◌≡◌, ◌≤◌, ◌+◌, [], length, take}
use Rattle.std.specs.List.{list_any}
use Rattle.so_ids.specs.declared.MboxId.{MboxId}
use Rattle.so_ids.specs.declared.MsgId.{MsgId}
use Rattle.so_state.specs.Choice.{is_for}
use Rattle.so_mbox.specs.Boards.{listed_at, room_at, once}
use Rattle.so_mbox.proofs.boards.Boards.grow.Given as goal

abbrev pub invariant-loop-row : goal.invariant-loop-row
invariant-loop-row l = record {
  count : length l.self ≡ length l.fn.self;
  none : (mbox : MboxId) (msg : MsgId) → listed_at l.self mbox msg ≡ [];
  rooms : (mbox : MboxId) (msg : MsgId) → room_at l.fn.self mbox msg + once (list_any (is_for mbox msg) (take l.row-index l.rows)) ≤ room_at l.self mbox msg;
}
