use Rattle.std.proofs.Common.{◌≡◌, ℕ, ◌<◌, length, get_or}
use Rattle.serde_json.specs.View.{items_view}
use Rattle.so_scene_build.specs.Defs.{quote_at}
use Rattle.so_scene_build.proofs.defs.quotes_in.Given as goal

abbrev pub invariant-loop-k : goal.invariant-loop-k
invariant-loop-k l = (length l.quotes ≡ 8) × ((j : ℕ) → j < l.k → get_or l.quotes j 0 ≡ quote_at j (items_view l.list))
