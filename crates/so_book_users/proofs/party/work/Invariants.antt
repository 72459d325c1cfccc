use Rattle.std.proofs.Common.{◌≡◌}
use Rattle.so_book.specs.Passes.{IsPassOf, party_of}
use Rattle.so_book_users.proofs.party.work.Given as goal

abbrev pub invariant-loop : goal.invariant-loop
invariant-loop g l = IsPassOf l.book l.pass × (party_of l.pass ≡ l.by)
