use Rattle.std.proofs.Common.{◌≡◌, ◌+◌, ◌*◌, ◌≤◌, ℕ, List, ◌++◌, codes, decimal, drop}
use Rattle.std.specs.List.{flat_map}
use Rattle.arrayvec.specs.ArrayVec.{array_vec_len}
use Rattle.so_ids.specs.declared.StateId.{StateId}
use Rattle.so_lines.proofs.put_commaed.Given as goal

abbrev commaed : List StateId → List ℕ
commaed states = flat_map (λ state. codes "," ++ decimal state.0) states

abbrev pub invariant-loop-state : goal.invariant-loop-state
invariant-loop-state l = record {
  written : l.buf.items ++ commaed (drop l.state-index l.states) ≡ l.fn.buf.items ++ commaed l.states;
  room : array_vec_len l.buf ≤ array_vec_len l.fn.buf + 11 * l.state-index;
}
