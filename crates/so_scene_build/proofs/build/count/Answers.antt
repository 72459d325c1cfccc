use Rattle.std.proofs.Common.{sym, ap, ◌∙◌}
use Rattle.serde_json.proofs.Views.{items_len-items_view}
use Rattle.serde_json.specs.Events.{items_len}
use Rattle.so_scene_build.proofs.build.count.Goals as goal

pub returns : goal.returns
returns c = sym (items_len-items_view c.list.result.now) ∙ ap items_len c.list.ensures
