use Rattle.std.proofs.Common.{◌≢◌, ℕ, ◌<◌}
use Rattle.so_queue.specs.Plain.{waiting_at}
use Rattle.so_queue.proofs.plain.first_on.Given as goal

abbrev pub invariant-loop-at : goal.invariant-loop-at
invariant-loop-at l = (k : ℕ) → k < l.at → (waiting_at l.waiting k).slot ≢ l.slot
