use Rattle.std.proofs.Common.{refl, sym}
use Rattle.so_queue.proofs.PlainLaws.{first_head, none_on}
use Rattle.so_queue.proofs.plain.head_on.Goals as goal

pub returns-in-Some : goal.returns-in-Some
returns-in-Some c = sym (first_head c.args.waiting.now c.args.slot c.in-Some.at c.in-Some.ensures)

pub returns-in-None : goal.returns-in-None
returns-in-None c = rw (none_on c.args.waiting.now c.args.slot c.in-None.ensures) refl
