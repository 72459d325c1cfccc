use Rattle.std.proofs.Common.{arith, ◌∙◌}
use Rattle.std.proofs.lemmas.List.{length-replicate}
use Rattle.so_mbox.proofs.BoardLaws.{holders-none, holders-next, nothing_on}
use Rattle.so_mbox.proofs.boards.Boards.with.Goals as goal

pub loop-k-init : goal.loop-k-init
loop-k-init c = rw (c.in_ok-all.ensures, c.mboxes.ensures) (record {
  none = λ mbox msg. nothing_on _ mbox.0 msg;
  room = record {
    count = length-replicate _ _;
    rooms = λ mbox msg within. let none = holders-none c.args.scene.now mbox msg in omega (arith, none);
  };
})

pub loop-k-preserved : goal.loop-k-preserved
loop-k-preserved c = record {
  none = c.in_ok-grow.ensures.none;
  room = record {
    count = c.in_ok-grow.ensures.boards ∙ c.loop-k.invariant.room.count;
    rooms = λ mbox msg within.
        let more = rw c.rows_of.ensures.value at (c.in_ok-grow.ensures.room mbox msg) in
        let before = c.loop-k.invariant.room.rooms mbox msg within in
        let next = holders-next c.args.scene.now mbox msg c.loop-k.k in
        omega (arith, more, before, next);
  };
}
