use Rattle.std.proofs.Common.{All}
use Rattle.so_history.specs.Chain.{IsPickInRange}
use Rattle.so_cases.proofs.picks.picks_of.Given as goal

abbrev pub invariant-loop-word : goal.invariant-loop-word
invariant-loop-word l = All (IsPickInRange l.fn.scene) l.picks.items
