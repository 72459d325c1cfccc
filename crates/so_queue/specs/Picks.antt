-- The words that all picks share: a queue at rest, and the least of many demands.
use Rattle.std.specs.Prelude.{ℕ, zero, suc, Bool, ◌==◌, ◌&&◌, true, false, Option, None}
use Rattle.so_ids.specs.declared.DemandId.{DemandId}
use Rattle.so_ids.specs.declared.KeyId.{KeyId}
use Rattle.so_queue.specs.Queues.{QueueTable, running_of, lesser}

-- no turn of the queue runs
abbrev pub is_quiet : QueueTable → KeyId → Bool
is_quiet q key = (running_of true key q == 0) && (running_of false key q == 0)

-- the least that f gives for a number below n
unfoldable pub least_below : (ℕ → Option DemandId) → ℕ → Option DemandId
least_below f zero = None
least_below f (suc n) = lesser (least_below f n) (f n)
