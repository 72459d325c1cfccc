use Rattle.std.proofs.Common.{Some, ap, ◌∙◌}
use Rattle.serde_json.specs.View.{view}
use Rattle.serde_json.specs.declared.value.Value.{Value}
use Rattle.serde_json.proofs.Views.{get_item_within, get_item_past}
use Rattle.so_scene_build.proofs.code_builder.item.Goals as goal

pub returns-then-i-list : goal.returns-then-i-list
returns-then-i-list c = ap (λ (v : Value). Some (view v)) c.index-list-i.is ∙ get_item_within c.args.list.now c.args.i _ c.if-i-list.true

pub returns-else-i-list : goal.returns-else-i-list
returns-else-i-list c = get_item_past c.args.list.now c.args.i c.if-i-list.false
