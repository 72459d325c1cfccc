use Rattle.std.proofs.Common.{[], sym, ◌∙◌, refl}
use Rattle.std.proofs.lemmas.Cmp.{nat_eq_equiv}
use Rattle.so_mbox.specs.Boards.{none_listed, IsAbsent, agents_in, room_in}
use Rattle.so_mbox.proofs.BoardLaws.{stands_at, absent, not_some, stands_last, found_more}
use Rattle.so_mbox.proofs.boards.Board.place.Goals as goal

pub returns-in-Some-clause-place : goal.returns-in-Some-clause-place
returns-in-Some-clause-place c = stands_at _ _ _ (sym c.find.ensures.place ∙ c.in-Some.is)

pub returns-clause-place : goal.returns-clause-place
returns-clause-place c =
    let none : IsAbsent c.args.msg c.args.self.now = absent _ _ (sym c.find.ensures.place ∙ not_some _ c.in_default.not-Some) in
    rw (c.push_reserved.ensures.items, c.reserve.ensures.items, c.with.ensures, c.as_slice-at.ensures.value, c.self.view_is) (stands_last c.args.msg c.args.self.now (none_listed c.args.msg) none (nat_eq_equiv.refl c.args.msg.0))

pub returns-clause-agents : goal.returns-clause-agents
returns-clause-agents c = λ m. rw (c.push_reserved.ensures.items, c.reserve.ensures.items, c.with.ensures, c.self.view_is) (found_more agents_in [] m c.args.self.now (none_listed c.args.msg) refl)

pub returns-clause-room : goal.returns-clause-room
returns-clause-room c = λ m. rw (c.push_reserved.ensures.items, c.reserve.ensures.items, c.with.ensures, c.self.view_is) (found_more room_in 0 m c.args.self.now (none_listed c.args.msg) refl)
