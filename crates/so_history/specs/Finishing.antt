-- How many agents of a cooperation have not finished yet, while it is leaving.
use Rattle.std.specs.Prelude.{◌≡◌, ℕ, ◌+◌, List, [], Bool, true, false, count_by}
use Rattle.so_ids.specs.declared.CoopId.{CoopId}
use Rattle.so_ids.specs.declared.Opening.{Opening}
use Rattle.so_ids.specs.declared.Opening.TheVariants as opening
use Rattle.so_scene.specs.declared.parts.SceneParts.{SceneParts}
use Rattle.so_history.specs.declared.entry.Entry.{Entry}
use Rattle.so_history.specs.declared.entry.Demand.{Demand}
use Rattle.so_history.specs.declared.entry.DemandKind.{DemandKind}
use Rattle.so_history.specs.declared.entry.DemandKind.TheVariants.{Finish}
use Rattle.so_history.specs.Turns.{Started}
use Rattle.so_history.specs.Steps.{waiting_for, running_for}

abbrev pub asks_finish : DemandKind → Bool
asks_finish Finish = true
asks_finish other = false

-- a demand to finish, and a turn that does
abbrev pub is_finish : Demand → Bool
is_finish d = asks_finish d.kind

abbrev pub is_finishing : Opening → Bool
is_finishing opening.Finish = true
is_finishing other = false

abbrev pub finishes : Started → Bool
finishes t = is_finishing t.opening

-- the finish turns of a cooperation's agents that are still to come or still run
unfoldable pub unfinished : SceneParts → List Entry → CoopId → ℕ
unfinished s h c = count_by is_finish (waiting_for s h c) + count_by finishes (running_for s h c)

-- nothing is left of the agents of a cooperation: no demand waits and no turn runs
pub record IsQuiet (s : SceneParts) (h : List Entry) (c : CoopId) : Type 0 where
  pub waiting : waiting_for s h c ≡ []
  pub running : running_for s h c ≡ []
