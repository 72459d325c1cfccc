use Rattle.std.proofs.Common.{◌≡◌, ℕ, ◌<◌, length, get_or, pos}
use Rattle.serde_json.specs.View.{items_view}
use Rattle.so_scene_build.specs.Defs.{var_at}
use Rattle.so_scene_build.proofs.defs.vars_in.Given as goal

abbrev pub invariant-loop-k : goal.invariant-loop-k
invariant-loop-k l = (length l.vars ≡ 16) × ((j : ℕ) → j < l.k → get_or l.vars j (pos 0) ≡ var_at j (items_view l.list))
