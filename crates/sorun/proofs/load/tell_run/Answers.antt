use Rattle.std.proofs.Common.{◌≡◌, length, refl, false, true}
use Rattle.sorun.specs.Loads.{handled, load_line}
use Rattle.sorun.proofs.LoadLaws.{run_told, risen_ok, risen_err}
use Rattle.sorun.proofs.load.tell_run.Goals.{in-Ok, in-Err}
use Rattle.sorun.proofs.load.tell_run.Goals as goal

pub returns-clause-load : goal.returns-clause-load
returns-clause-load g c =
    let run = c.args.run in
    let line : c.as_slice.result.now ≡ load_line c.args.count (length run.history.entries) run.demands (handled run.history.entries) run.status = rw (c.as_slice.ensures.value, c.put_run.ensures, c.new-line.ensures) refl in
    elim c.match-put_all.branch [
      | in-Ok w ↦ run_told c.args.count run _ c.as_slice.result.now false _ _ _ _ c.requires refl refl refl w.cause-is line w.in-Ok.ensures.bytes (risen_ok _ _ w.in-Ok.field-0 w.in-Ok.ensures.cause)
      | in-Err w ↦ run_told c.args.count run _ c.as_slice.result.now true _ _ _ _ c.requires refl refl refl w.cause-is line w.in-Err.ensures.bytes (risen_err _ _ w.in-Err.field-0 w.in-Err.ensures.cause)
    ]
