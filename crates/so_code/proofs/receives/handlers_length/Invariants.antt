use Rattle.std.proofs.Common.{◌≡◌, ◌+◌, drop, false}
use Rattle.so_code.specs.Receives.{handlers_length}
use Rattle.so_code.proofs.receives.handlers_length.Given as goal

abbrev pub invariant-loop-count : goal.invariant-loop-count
invariant-loop-count l = handlers_length false l.code ≡ l.count + handlers_length l.inside (drop l.count l.code)
