use Rattle.std.proofs.Common.{rules, ◌∷◌, [], subst, arith}
use Rattle.so_book.specs.Passes.{ArePartiesFrom}
use Rattle.so_book.proofs.Passing.{parties_front, parties_last}
use Rattle.so_book_users.proofs.shows.last_of.Goals as goal

pub returns-clause-rest : goal.returns-clause-rest
returns-clause-rest g c =
    let b = c.args.book.now in
    (parties_front b 0 _ (c.in-Some.pass ∷ []) (subst (ArePartiesFrom b 0) c.in-Some.ensures.items c.requires.0), search rules)

pub returns-clause-last : goal.returns-clause-last
returns-clause-last g c =
    let b = c.args.book.now in
    let r = parties_last b 0 c.pop.new.self.items c.in-Some.pass (subst (ArePartiesFrom b 0) c.in-Some.ensures.items c.requires.0) in
    let party = r.1 in
    (r.0, omega arith)
