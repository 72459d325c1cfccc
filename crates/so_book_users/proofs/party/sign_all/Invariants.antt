use Rattle.std.proofs.Common.{◌≡◌}
use Rattle.so_book.specs.Passes.{IsPassOf, party_of}
use Rattle.so_book_users.proofs.party.sign_all.Given as goal

abbrev pub invariant-loop-number : goal.invariant-loop-number
invariant-loop-number g l = IsPassOf l.book l.pass × (party_of l.pass ≡ l.by)
