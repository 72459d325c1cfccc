use Rattle.std.proofs.Common.{◌≡◌, ◌-◌, length}
use Rattle.std.specs.Prelude.{find, map}
use Rattle.std.specs.List.{range_with_len}
use Rattle.so_state.specs.States.{number_of, declared}
use Rattle.so_state.specs.Fault.{breaks}
use Rattle.so_state.specs.Rules.{fault_of}
use Rattle.so_state.proofs.faults.least.Given as goal

abbrev pub invariant-loop-k : goal.invariant-loop-k
invariant-loop-k l =
    find (breaks l.states) (map (fault_of l.rule) (declared l.states))
    ≡ find (breaks l.states) (map (fault_of l.rule) (map number_of (range_with_len l.k (length l.states - l.k))))
