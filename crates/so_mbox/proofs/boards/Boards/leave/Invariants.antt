use Rattle.std.proofs.Common.{◌≡◌, length, cond}
use Rattle.std.specs.List.{list_any, filter}
use Rattle.so_ids.specs.declared.MboxId.{MboxId}
use Rattle.so_ids.specs.declared.MsgId.{MsgId}
use Rattle.so_scene.specs.Parts.{agents_from}
use Rattle.so_mbox.specs.Table.{is_none_of, has_row}
use Rattle.so_mbox.specs.Boards.{listed_at, room_at}
use Rattle.so_mbox.proofs.boards.Boards.leave.Given as goal

abbrev pub invariant-loop-k : goal.invariant-loop-k
invariant-loop-k l = record {
  count : length l.self ≡ length l.fn.self;
  agents : (mbox : MboxId) (msg : MsgId) → listed_at l.self mbox msg ≡ cond (list_any (has_row l.scene mbox msg) (agents_from l.first l.k)) (filter (is_none_of (agents_from l.first l.count)) (listed_at l.fn.self mbox msg)) (listed_at l.fn.self mbox msg);
  rooms : (mbox : MboxId) (msg : MsgId) → room_at l.self mbox msg ≡ room_at l.fn.self mbox msg;
}
