-- Two holds with the same fields are the same.
use Rattle.std.proofs.Common.{◌≡◌, ℕ, ◌+◌, ◌^◌, ◌<◌, Option}
use base.Stored.{Coded}
use denote.Ref.{Bor}
use denote.Struct.Props.{props}
use Rattle.so_book.specs.declared.view.View.{View}
use Rattle.so_book.specs.declared.book.Book.{Book}
use Rattle.so_book.specs.declared.book.Held.{Held}
use Rattle.so_book.specs.Seats.{SeatOf, HasSlot}

module _ {V E : Type 0} (K : Coded (Option V)) (K' : Coded (View E)) where
  pub held_same : (book : Bor (Book V E)) (seat : SeatOf V E) (ticket : ℕ) (value : V) (a b : seat.table_id ≡ book.now.table.shared.table_id) (c d : HasSlot ticket seat) (e f : ticket + 1 < 2 ^ 64)
      → ◌≡◌ {A = Held V E} record { book = book; seat = seat; ticket = ticket; of_book = a; has_slot = c; drawn = e; value = value }
      record { book = book; seat = seat; ticket = ticket; of_book = b; has_slot = d; drawn = f; value = value }
  held_same book seat ticket value a b c d e f =
      let first : IsProp (seat.table_id ≡ book.now.table.shared.table_id) = hlevel props in
      let second : IsProp (HasSlot ticket seat) = hlevel props in
      let third : IsProp (ticket + 1 < 2 ^ 64) = hlevel props in
      λ i. record { book = book; seat = seat; ticket = ticket; of_book = first a b i; has_slot = second c d i; drawn = third e f i; value = value }
