use Rattle.std.proofs.Common.{refl}
use Rattle.so_history.proofs.LineLaws.{has_line}
use Rattle.so_history.proofs.history.History.line.Goals as goal

pub put_trace-requires-clause-short : goal.put_trace-requires-clause-short
put_trace-requires-clause-short c = (has_line c.args.scene.now c.args.self.now.entries c.args.place.0 c.get-entry.result c.requires.legal c.get-entry.ensures).short

pub returns-in-Trace : goal.returns-in-Trace
returns-in-Trace c =
    let place = (has_line c.args.scene.now c.args.self.now.entries c.args.place.0 c.get-entry.result c.requires.legal c.get-entry.ensures).place_is in
    rw (c.put_trace.ensures, c.in-Trace.is, c.get-entry.ensures, place) refl
