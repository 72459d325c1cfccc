use Rattle.std.proofs.Common.{◌≡◌, drop}
use Rattle.so_state.specs.Choice.{answering}
use Rattle.so_state.proofs.choice.answering.Given as goal

abbrev pub invariant-loop-s : goal.invariant-loop-s
invariant-loop-s l =
    answering l.rows l.active l.mbox l.msg l.states ≡ answering l.rows l.active l.mbox l.msg (drop l.s-index l.states)
