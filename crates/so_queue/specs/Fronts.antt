-- What holds of the lists of queues, and of the fronts that are kept beside them.
use Rattle.std.specs.Prelude.{◌≡◌, ◌≢◌, ℕ, ◌*◌, ◌^◌, ◌<◌, List, length, slice_index_or, Option, None}
use Rattle.so_ids.specs.declared.DemandId.{DemandId}
use Rattle.so_queue.specs.Cells.{rank}
use Rattle.so_queue.specs.Ring.{height}
use Rattle.so_queue.specs.Queues.{list_at, front_of_key, IsAmong}

-- demands of two lists differ, and are numbers of 32 bits
pub record IsApart (lists : List (List DemandId)) : Type 0 where
  pub differ : (s t : ℕ) (d e : DemandId) → s ≢ t → IsAmong (list_at lists s) d → IsAmong (list_at lists t) e → rank d ≢ rank e
  pub small : (s : ℕ) (d : DemandId) → IsAmong (list_at lists s) d → d.k < 2 ^ 32

abbrev pub height_of_key : List (List DemandId) → ℕ → ℕ
height_of_key lists k = height (front_of_key lists k)

pub record IsQueues (lists : List (List DemandId)) (fronts : List (Option DemandId)) : Type 0 where
  pub len : length lists ≡ 8 * length fronts
  pub heads : (k : ℕ) → k < length fronts → slice_index_or fronts k None ≡ front_of_key lists k
  pub apart : IsApart lists

-- the same but for the front of one key
pub record IsQueuesBut (lists : List (List DemandId)) (fronts : List (Option DemandId)) (key : ℕ) : Type 0 where
  pub len : length lists ≡ 8 * length fronts
  pub heads : (k : ℕ) → k < length fronts → k ≢ key → slice_index_or fronts k None ≡ front_of_key lists k
  pub apart : IsApart lists

-- all tables are for the same number of keys
pub record AreAligned (safe exclusive keys : ℕ) : Type 0 where
  pub safe_keys : safe ≡ keys
  pub exclusive_keys : exclusive ≡ keys
  pub few : keys < 2 ^ 32
