use Rattle.std.proofs.Common.{[]}
use Rattle.std.specs.List.{filter}
use Rattle.so_scene.specs.Parts.{agents_from}
use Rattle.so_mbox.specs.Table.{is_none_of}
use Rattle.so_mbox.specs.Boards.{agents_in, room_in}
use Rattle.so_mbox.proofs.BoardLaws.{changed_at, same_at}
use Rattle.so_mbox.proofs.boards.Boards.strike.Goals as goal

pub returns-clause-agents : goal.returns-clause-agents
returns-clause-agents c =
    let within = rw (← c.self.view_is) at c.requires.within in
    rw (← c.self.view_is) (changed_at agents_in [] (filter (is_none_of (agents_from c.args.first c.args.count))) _ c.args.row.now _ _ within c.index_mut.ensures.value c.leave_out.ensures.agents)

pub returns-clause-room : goal.returns-clause-room
returns-clause-room c =
    let within = rw (← c.self.view_is) at c.requires.within in
    rw (← c.self.view_is) (same_at room_in 0 _ _ _ _ within c.index_mut.ensures.value c.leave_out.ensures.room)
