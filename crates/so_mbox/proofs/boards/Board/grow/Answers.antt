use Rattle.std.proofs.Common.{sym, ◌∙◌}
use Rattle.so_mbox.proofs.BoardLaws.{agents_there, same_agents, put_room, on_ok}
use Rattle.so_mbox.proofs.boards.Board.grow.Goals as goal

pub grow-requires : goal.grow-requires
grow-requires c =
    let s = rw (← c.self.view_is) at c.in_ok-at.ensures.place in
    sym (agents_there c.args.msg _ _ _ s c.index_mut.ensures.value) ∙ (rw c.self.view_is (c.in_ok-at.ensures.agents c.args.msg ∙ c.requires))

pub returns-clause-agents : goal.returns-clause-agents
returns-clause-agents c =
    let s = rw (← c.self.view_is) at c.in_ok-at.ensures.place in
    on_ok c.grow.result c.grow.ensures (λ e m. rw (← c.in_ok-at.ensures.agents m, ← c.self.view_is) (same_agents c.args.msg _ _ _ _ s c.index_mut.ensures.value e m))

pub returns-clause-room : goal.returns-clause-room
returns-clause-room c =
    let s = rw (← c.self.view_is) at c.in_ok-at.ensures.place in
    on_ok c.grow.result c.grow.ensures (λ e m. rw (← c.in_ok-at.ensures.room m, ← c.self.view_is) (put_room c.args.msg _ _ _ _ s c.index_mut.ensures.value e m))
