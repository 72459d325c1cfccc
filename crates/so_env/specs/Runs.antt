-- What holds on the way of a simulation.
use Rattle.std.specs.Prelude.{◌≡◌, ℕ, ◌<◌, List, [], false, Option}
use Rattle.so_lists.specs.Lists.{or_else, first_below}
use Rattle.so_scene.specs.declared.parts.SceneParts.{SceneParts}
use Rattle.so_scene.specs.Lanes.{lanes}
use Rattle.so_history.specs.declared.entry.Entry.{Entry}
use Rattle.so_history.specs.Turns.{running_at, lane_number}
use Rattle.so_history.specs.Coops.{aborted}
use Rattle.so_history.specs.Chain.{registration, tidying, taking_entry, FollowsFirst}
use Rattle.so_ledger.specs.Shapes.{Core}
use Rattle.so_kernel.specs.Held.{AreHeld}
use Rattle.so_kernel.specs.declared.answers.Turn.{Turn}

-- no turn runs on a lane, or the run was aborted
abbrev pub NoneRuns : Core → Type 0
NoneRuns k = aborted k.history ≡ false → (l : ℕ) → l < lanes k.scene → running_at lane_number k.history l ≡ []

-- what the first of n lanes takes
abbrev pub lanes_entry : Core → ℕ → Option Entry
lanes_entry k n = first_below (λ l. taking_entry k.scene k.history (record { 0 = l })) n

-- what is to be tidied, else the first demand that is taken
abbrev pub tidy_first : Core → Option Entry
tidy_first k = or_else (tidying k.scene k.history) (lanes_entry k (lanes k.scene))

-- the first step where no turn runs
abbrev pub free_first : Core → Option Entry
free_first k = or_else (registration k.scene k.history) (tidy_first k)

-- the simulation has come so far
pub record IsOnTheWay (s : SceneParts) (limit : ℕ) (k : Core) (ts : List (Option Turn)) : Type 0 where
  pub scene : k.scene ≡ s
  pub limit_is : k.limit ≡ limit
  pub held : AreHeld k ts
  pub follows : FollowsFirst s limit k.history
  pub unmarked : k.full ≡ false
