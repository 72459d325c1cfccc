use Rattle.std.proofs.Common.{◌≡◌, ◌+◌, ◌*◌, ◌≤◌, ◌++◌, drop}
use Rattle.arrayvec.specs.ArrayVec.{array_vec_len}
use Rattle.so_lines.specs.Lines.{spaced}
use Rattle.so_lines.proofs.put_spaced.Given as goal

abbrev pub invariant-loop-number : goal.invariant-loop-number
invariant-loop-number l = record {
  written : l.buf.items ++ spaced (drop l.number-index l.numbers) ≡ l.fn.buf.items ++ spaced l.numbers;
  room : array_vec_len l.buf ≤ array_vec_len l.fn.buf + 21 * l.number-index;
}
