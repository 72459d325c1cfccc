use Rattle.std.proofs.Common.{◌≡◌, ◌++◌, ◌∷◌, [], length, take, cond}
use Rattle.std.specs.List.{list_any}
use Rattle.so_ids.specs.declared.MboxId.{MboxId}
use Rattle.so_ids.specs.declared.MsgId.{MsgId}
use Rattle.so_state.specs.Choice.{is_for}
use Rattle.so_mbox.specs.Boards.{listed_at, room_at}
use Rattle.so_mbox.proofs.boards.Boards.enter.Given as goal

abbrev pub invariant-loop-row : goal.invariant-loop-row
invariant-loop-row l = record {
  count : length l.self ≡ length l.fn.self;
  agents : (mbox : MboxId) (msg : MsgId) → listed_at l.self mbox msg ≡ listed_at l.fn.self mbox msg ++ cond (list_any (is_for mbox msg) (take l.row-index l.rows)) (l.agent ∷ []) [];
  rooms : (mbox : MboxId) (msg : MsgId) → room_at l.self mbox msg ≡ room_at l.fn.self mbox msg;
}
