use Rattle.std.proofs.Common.{ℕ, rules}
use Rattle.std.proofs.lemmas.List.FromFn.{fill_by_all}
use Rattle.serde_json.specs.View.{items_view}
use Rattle.so_scene_build.specs.Defs.{quote_at}
use Rattle.so_scene_build.proofs.defs.quotes_in.Goals as goal

pub returns : goal.returns
returns c = fill_by_all (λ (k : ℕ). quote_at k (items_view c.args.list.now)) c.loop-k.quotes 8 0 c.loop-k.invariant.0 (search rules)
