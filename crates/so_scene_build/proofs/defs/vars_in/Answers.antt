use Rattle.std.proofs.Common.{ℕ, pos, rules}
use Rattle.std.proofs.lemmas.List.FromFn.{fill_by_all}
use Rattle.serde_json.specs.View.{items_view}
use Rattle.so_scene_build.specs.Defs.{var_at}
use Rattle.so_scene_build.proofs.defs.vars_in.Goals as goal

pub returns : goal.returns
returns c = fill_by_all (λ (k : ℕ). var_at k (items_view c.args.list.now)) c.loop-k.vars 16 (pos 0) c.loop-k.invariant.0 (search rules)
