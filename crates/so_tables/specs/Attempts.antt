-- Which cooperations main has tried to register, as a table, and which is next.
use Rattle.std.specs.Prelude.{ℕ, List, length, Bool, true, false, not, ◌&&◌, Option, Some, None, if◌then◌else◌, slice_index_or, slice_set, replicate}
use Rattle.so_ids.specs.declared.CoopId.{CoopId}
use Rattle.so_lists.specs.Lists.{first_below}
use Rattle.so_scene.specs.declared.parts.SceneParts.{SceneParts}
use Rattle.so_scene.specs.Parts.{coop_of}
use Rattle.so_scene.specs.Cooperations.{coop_number}

-- whether each was tried, by number
pub record AttemptTable : Type 0 where
  pub scene : SceneParts
  pub tried : List Bool

abbrev pub none_tried : SceneParts → AttemptTable
none_tried s = record { scene = s; tried = replicate (length s.coops) false }

abbrev pub after_attempt : CoopId → AttemptTable → AttemptTable
after_attempt c t = record t { tried = slice_set t.tried c.0 true }

-- main's next: the least that it is to register at the start, and has not tried
abbrev pub untried_at : AttemptTable → ℕ → Option CoopId
untried_at t k = if (coop_of t.scene (coop_number k)).at_start && not (slice_index_or t.tried k false) then Some (coop_number k) else None

abbrev pub next_attempt : AttemptTable → Option CoopId
next_attempt t = first_below (untried_at t) (length t.scene.coops)
