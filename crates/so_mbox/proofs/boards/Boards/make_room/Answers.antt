use Rattle.std.proofs.Common.{[], ◌+◌}
use Rattle.so_mbox.specs.Boards.{agents_in, room_in}
use Rattle.so_mbox.proofs.BoardLaws.{changed_at, same_at, nothing_there, on_ok}
use Rattle.so_mbox.proofs.boards.Boards.make_room.Goals as goal

pub grow-requires : goal.grow-requires
grow-requires c =
    let within = rw (← c.self.view_is) at c.requires.within in
    let none = rw (← c.self.view_is) at c.requires.none in
    nothing_there c.self.inside.boards.items c.args.row.now.mbox.0 c.index_mut.result.now c.args.row.now.msg within c.index_mut.ensures.value none

pub returns-clause-agents : goal.returns-clause-agents
returns-clause-agents c =
    let within = rw (← c.self.view_is) at c.requires.within in
    on_ok c.grow.result c.grow.ensures.agents (λ e. rw (← c.self.view_is) (same_at agents_in [] _ _ _ _ within c.index_mut.ensures.value e))

pub returns-clause-room : goal.returns-clause-room
returns-clause-room c =
    let within = rw (← c.self.view_is) at c.requires.within in
    on_ok c.grow.result c.grow.ensures.room (λ e. rw (← c.self.view_is) (changed_at room_in 0 (λ n. n + 1) _ c.args.row.now _ _ within c.index_mut.ensures.value e))
