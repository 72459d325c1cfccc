use Rattle.std.proofs.Common.{sym, ◌∙◌}
use Rattle.so_scene_json.proofs.Finished.{is_parts, is_checked}
use Rattle.so_scene_json.proofs.finish.parts_of.Goals as goal

pub returns-in-Ok-clause-checked : goal.returns-in-Ok-clause-checked
returns-in-Ok-clause-checked c =
    let made = c.in-Ok.ensures in
    is_checked c.args.build c.parts_with.result c.requires made.each_text_once
    (is_parts c.args.build c.in-Ok.lists.mboxes c.in-Ok.lists.texts c.in-Ok.lists.groups made.mboxes made.texts made.groups ∙ sym c.parts_with.ensures)
