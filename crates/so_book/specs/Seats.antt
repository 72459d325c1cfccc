-- What a seat at a book's table has in each stage.
use Rattle.std.specs.Prelude.{◌≡◌, ℕ, [], ◌∷◌, Option, None}
use Rattle.atomic_table.specs.declared.shared.Seat.{Seat}
use Rattle.so_book.specs.declared.view.Note.{Note}
use Rattle.so_book.specs.declared.view.View.{View}
use Rattle.so_book.specs.declared.view.Stage.TheVariants.{Free, Waits, Holds}
use Rattle.so_book.specs.Rule.{first_note, view_of}

abbrev pub SeatOf : Type 0 → Type 0 → Type 0
SeatOf V E = Seat (Option V) (View E)

module _ {V E : Type 0} where
  abbrev pub note_at : SeatOf V E → Note E
  note_at s = first_note s.me.0.notes

  -- the seat has one note and no slot, and waits for nothing
  abbrev pub IsAtRest : SeatOf V E → Type 0
  IsAtRest s = s.me ≡ (view_of (note_at s ∷ []) Free, [])

  -- the seat has one note and no slot, and has drawn the ticket
  abbrev pub IsWaiting : ℕ → SeatOf V E → Type 0
  IsWaiting ticket s = s.me ≡ (view_of (note_at s ∷ []) (Waits ticket), [])

  -- the seat has one note, and the slot, which is empty, since the value is out of it
  abbrev pub HasSlot : ℕ → SeatOf V E → Type 0
  HasSlot ticket s = s.me ≡ (view_of (note_at s ∷ []) (Holds ticket), (0, None) ∷ [])

  -- the same seat of the same table
  abbrev pub IsSameSeat : SeatOf V E → SeatOf V E → Type 0
  IsSameSeat old new = (new.table_id ≡ old.table_id) × (new.id ≡ old.id)
