use Rattle.std.proofs.Common.{◌≡◌}
use Rattle.so_book.specs.Seats.{IsSameSeat}
use Rattle.so_book.proofs.book.Book.draw.Given as goal

abbrev pub invariant-loop : goal.invariant-loop
invariant-loop g l = IsSameSeat l.initial.seat l.seat × (l.seat.me ≡ l.initial.seat.me)
