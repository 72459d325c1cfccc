use Rattle.std.proofs.Common.{sym, ◌∙◌}
use Rattle.so_scene_data.proofs.Named.{shown_same, shown_none}
use Rattle.so_scene_writer.proofs.words.text.Goals as goal

pub returns-in-Ok : goal.returns-in-Ok
returns-in-Ok c = let p = c.in-Ok.ensures.cases in p.0 ∙ sym (shown_same c.args.bytes.now p.1)

pub returns-in-Err : goal.returns-in-Err
returns-in-Err c = sym (shown_none c.args.bytes.now c.in-Err.ensures.cases.0)
