use Rattle.std.proofs.Common.{arith}
use Rattle.serde_json.proofs.Views.{items_len-items_view}
use Rattle.so_scene_build.proofs.code_builder.used_from.Goals as goal

pub returns-then-i-list : goal.returns-then-i-list
returns-then-i-list c = rw (items_len-items_view c.args.list.now) c.min.ensures

pub returns-else-i-list : goal.returns-else-i-list
returns-else-i-list c = rw (items_len-items_view c.args.list.now) (omega arith)
