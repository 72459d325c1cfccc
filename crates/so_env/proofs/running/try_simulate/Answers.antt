use Rattle.std.proofs.Common.{sym, ◌∙◌, ap, None}
use Rattle.std.specs.Prelude.{replicate}
use Rattle.so_scene.specs.Lanes.{lanes}
use Rattle.so_ledger.specs.Shapes.{Core}
use Rattle.so_env.specs.Prints.{cause_of}
use Rattle.so_env.proofs.RunLaws.{way_start}
use Rattle.so_env.proofs.OutcomeLaws.{simulated_by}
use Rattle.so_env.proofs.running.try_simulate.Goals as goal

pub run-printer-requires-clause-way : goal.run-printer-requires-clause-way
run-printer-requires-clause-way g c =
    way_start c.in_ok-kernel.kernel c.in_ok-turns.turns (ap (λ (k : Core). k.history) c.in_ok-kernel.ensures) (ap (λ (k : Core). k.full) c.in_ok-kernel.ensures)
    (c.in_ok-turns.ensures ∙ ap (λ n. replicate n None) (c.lanes.ensures.value ∙ sym (ap (λ (k : Core). lanes k.scene) c.in_ok-kernel.ensures)))

pub returns-clause-ok : goal.returns-clause-ok
returns-clause-ok g c =
    simulated_by c.args.scene.now c.in_ok-kernel.kernel.scene c.run-printer.new.kernel.scene c.args.units c.in_ok-kernel.kernel.limit c.args.mode c.close.result.history.entries c.run-printer.new.kernel.history c.close.result.cause c.run-printer.result.failed c.close.result.pieces
    (g.K.Sink.content c.args.out.now) (g.K.Sink.content c.run-printer.new.out) (g.K.Sink.faults c.args.out.now) (g.K.Sink.faults c.run-printer.new.out)
    (ap (λ (k : Core). k.scene) c.in_ok-kernel.ensures) (ap (λ (k : Core). k.limit) c.in_ok-kernel.ensures) c.run-printer.ensures.scene c.close.ensures.history c.parts-parts.ensures.keeps
    c.run-printer.ensures.chain c.close.ensures.legal (c.close.ensures.cause ∙ ap (cause_of c.run-printer.new.kernel.scene c.run-printer.new.kernel.history) c.failed.ensures) (rw (c.close.ensures.pieces, c.pieces.ensures) c.run-printer.ensures.printed) c.run-printer.ensures.cause
