use Rattle.std.proofs.Common.{arith}
use Rattle.so_timer.proofs.EarliestLaws.{root_earliest}
use Rattle.so_timer.proofs.heap.earliest.Goals as goal

pub returns-then-after-first : goal.returns-then-after-first
returns-then-after-first c = root_earliest c.args.heap.now c.args.after c.requires.order c.requires.few (omega arith) c.if-after-first.true
