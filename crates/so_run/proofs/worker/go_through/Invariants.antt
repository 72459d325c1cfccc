use Rattle.std.proofs.Common.{◌≡◌}
use Rattle.so_book.specs.Passes.{IsPassOf, party_of, seen_by}
use Rattle.so_kernel.specs.Hands.{IsHeld}
use Rattle.so_run.specs.Lines.{made_in}
use Rattle.so_run.specs.Knowing.{Knows}
use Rattle.so_run.proofs.worker.go_through.Given as goal

abbrev pub invariant-loop : goal.invariant-loop
invariant-loop g l = record {
  pass : IsPassOf l.book l.pass × (party_of l.pass ≡ l.fn.turn.by);
  knows : Knows l.scene (seen_by l.pass);
  held : IsHeld l.scene (made_in (seen_by l.pass)) l.turn;
  by : l.turn.by ≡ l.fn.turn.by;
}
