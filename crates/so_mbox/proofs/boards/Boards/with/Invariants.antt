use Rattle.std.proofs.Common.{◌≡◌, []}
use Rattle.so_ids.specs.declared.MboxId.{MboxId}
use Rattle.so_ids.specs.declared.MsgId.{MsgId}
use Rattle.so_mbox.specs.Boards.{listed_at, HaveRoom}
use Rattle.so_mbox.proofs.boards.Boards.with.Given as goal

abbrev pub invariant-loop-k : goal.invariant-loop-k
invariant-loop-k l = record {
  none : (mbox : MboxId) (msg : MsgId) → listed_at l.all mbox msg ≡ [];
  room : HaveRoom l.scene l.k l.all;
}
