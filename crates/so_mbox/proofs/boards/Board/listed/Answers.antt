use Rattle.std.proofs.Common.{[], sym, ◌∙◌}
use Rattle.so_mbox.specs.Boards.{agents_in}
use Rattle.so_mbox.proofs.BoardLaws.{stands_at, absent, agents_there, none_found}
use Rattle.so_mbox.proofs.boards.Board.listed.Goals as goal

pub returns-in-Some : goal.returns-in-Some
returns-in-Some c = c.as_slice.ensures ∙ sym (agents_there c.args.msg c.args.self.now c.in-Some.at c.index.result.now (stands_at _ _ _ (sym c.find.ensures.place ∙ c.in-Some.is)) (rw (← c.self.view_is) c.index.ensures))

pub returns-in-None : goal.returns-in-None
returns-in-None c = sym (none_found agents_in [] c.args.msg c.args.self.now (absent _ _ (sym c.find.ensures.place ∙ c.in-None.is)))
