use Rattle.std.proofs.Common.{sym, ◌∙◌}
use Rattle.std.specs.List.{filter}
use Rattle.so_scene.specs.Parts.{agents_from}
use Rattle.so_mbox.specs.Table.{is_none_of}
use Rattle.so_mbox.proofs.BoardLaws.{stands_at, absent, not_some, put_agents, same_room, none_out}
use Rattle.so_mbox.proofs.boards.Board.leave_out.Goals as goal

pub returns-in-Some-clause-agents : goal.returns-in-Some-clause-agents
returns-in-Some-clause-agents c =
    let at = rw (← c.self.view_is) at (sym c.find.ensures.place ∙ c.in-Some.is) in
    rw (← c.self.view_is) (put_agents (filter (is_none_of (agents_from c.args.first c.args.count))) c.args.msg _ _ _ _ (stands_at _ _ _ at) c.index_mut.ensures.value c.leave_out.ensures)

pub returns-in-Some-clause-room : goal.returns-in-Some-clause-room
returns-in-Some-clause-room c =
    let at = rw (← c.self.view_is) at (sym c.find.ensures.place ∙ c.in-Some.is) in
    rw (← c.self.view_is) (same_room c.args.msg _ _ _ _ _ (stands_at _ _ _ at) c.index_mut.ensures.value c.leave_out.ensures)

pub returns-in_default-clause-agents : goal.returns-in_default-clause-agents
returns-in_default-clause-agents c = none_out (is_none_of (agents_from c.args.first c.args.count)) c.args.msg c.args.self.now (absent _ _ (sym c.find.ensures.place ∙ not_some _ c.in_default.not-Some))
