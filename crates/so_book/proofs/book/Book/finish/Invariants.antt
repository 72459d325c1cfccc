use Rattle.std.proofs.Common.{◌≡◌, ◌++◌, []}
use Rattle.std.specs.Prelude.{All}
use Rattle.so_book.specs.declared.view.Stage.TheVariants.{Free}
use Rattle.so_book.specs.Rule.{view_of}
use Rattle.so_book.specs.Passes.{IsPassOf}
use Rattle.so_book.proofs.Passing.{notes_of}
use Rattle.so_book.proofs.book.Book.finish.Given as goal

abbrev pub invariant-loop-pass : goal.invariant-loop-pass
invariant-loop-pass g l =
    (l.seat.table_id ≡ l.self.table.shared.table_id)
    × (l.seat.me ≡ (view_of l.seat.me.0.notes Free, []))
    × All (IsPassOf l.self) l.passes.items
    × (notes_of l.passes.items ++ l.seat.me.0.notes ≡ notes_of l.fn.passes.items)

abbrev pub decreases-loop-pass : goal.decreases-loop-pass
decreases-loop-pass g l = goal.left-loop-pass g l
