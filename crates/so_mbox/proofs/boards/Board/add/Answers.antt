use Rattle.std.proofs.Common.{◌<◌, length, arith, [], ◌∷◌, ◌++◌, sym, ap, ◌∙◌}
use Rattle.so_mbox.proofs.BoardLaws.{stands_at, absent, agents_there, room_there, put_agents, same_room, no_room}
use Rattle.so_mbox.proofs.boards.Board.add.Goals as goal

pub unreachable-requires : goal.unreachable-requires
unreachable-requires c = no_room c.args.msg c.args.self.now (absent _ _ (sym c.find.ensures.place ∙ c.in-None.is)) c.requires

pub add-requires : goal.add-requires
add-requires c =
    let at = rw (← c.self.view_is) at (sym c.find.ensures.place ∙ c.in-Some.is) in
    let room = rw (← c.self.view_is) at c.requires in
    let s = stands_at c.args.msg c.self.inside.lists.items c.in-Some.at at in
    let agents = agents_there c.args.msg c.self.inside.lists.items c.in-Some.at c.index_mut.result.now s c.index_mut.ensures.value in
    let rooms = room_there c.args.msg c.self.inside.lists.items c.in-Some.at c.index_mut.result.now s c.index_mut.ensures.value in
    let fits : length c.index_mut.result.now.agents < c.index_mut.result.now.room = omega (arith, room, ap length agents, rooms) in
    fits

pub returns-clause-agents : goal.returns-clause-agents
returns-clause-agents c =
    let at = rw (← c.self.view_is) at (sym c.find.ensures.place ∙ c.in-Some.is) in
    rw (← c.self.view_is) (put_agents (λ agents. agents ++ c.args.agent ∷ []) c.args.msg _ _ _ _ (stands_at _ _ _ at) c.index_mut.ensures.value c.add.ensures)

pub returns-clause-room : goal.returns-clause-room
returns-clause-room c =
    let at = rw (← c.self.view_is) at (sym c.find.ensures.place ∙ c.in-Some.is) in
    rw (← c.self.view_is) (same_room c.args.msg _ _ _ _ _ (stands_at _ _ _ at) c.index_mut.ensures.value c.add.ensures)
