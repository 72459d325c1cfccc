use Rattle.so_code.proofs.ShapeLaws.{places-code}
use Rattle.so_code.proofs.run.next.Goals as goal

pub run-requires-clause-code : goal.run-requires-clause-code
run-requires-clause-code c = places-code c.instrs.result.now (rw c.instrs.ensures.value c.instrs.ensures.keeps)
