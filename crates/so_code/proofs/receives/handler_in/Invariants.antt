use Rattle.std.proofs.Common.{◌≡◌, ◌+◌, drop, false}
use Rattle.so_code.specs.Receives.{handler_from}
use Rattle.so_code.proofs.receives.handler_in.Given as goal

abbrev pub invariant-loop-count : goal.invariant-loop-count
invariant-loop-count l =
    handler_from l.case l.msg false l.first l.code ≡ handler_from l.case l.msg l.inside (l.first + l.count) (drop l.count l.code)
