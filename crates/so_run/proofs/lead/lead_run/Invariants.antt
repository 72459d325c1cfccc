use Rattle.std.proofs.Common.{◌≡◌, ◌≤◌, length}
use Rattle.std.specs.Prelude.{All}
use Rattle.so_ids.specs.Ids.{main_party}
use Rattle.so_ids.specs.Limits.{most_units}
use Rattle.so_book.specs.Passes.{IsPassOf, party_of, seen_by}
use Rattle.so_run.specs.Lines.{made_in, opened_in}
use Rattle.so_run.specs.Knowing.{Knows}
use Rattle.so_run.specs.Printing.{HasPrinted}
use Rattle.so_run.specs.Workers.{IsLane}
use Rattle.so_run.proofs.lead.lead_run.Given as goal

abbrev pub invariant-loop : goal.invariant-loop
invariant-loop g l = record {
  pass : IsPassOf l.book l.pass × (party_of l.pass ≡ main_party);
  knows : Knows l.scene (seen_by l.pass);
  opened : opened_in (seen_by l.pass) ≡ opened_in (seen_by l.fn.pass);
  few : length (made_in (seen_by l.pass)) ≤ most_units;
  count : l.count ≤ length (made_in (seen_by l.pass));
  printed : HasPrinted l.scene l.mode (made_in (seen_by l.pass)) l.count l.printer (g.K.Sink.content l.fn.out) (g.K.Sink.content l.out) (g.K.Sink.faults l.fn.out) (g.K.Sink.faults l.out);
  driven : All (λ w. IsLane l.book l.scene w.lane w.pass w.turn w.has_gone) l.driven.items;
  lanes : length l.driven.items ≡ length l.fn.driven.items;
}
