use Rattle.std.proofs.Common.{◌≡◌, ℕ, ◌+◌, Bool, refl, sym, ◌∙◌, ap, subst, false}
use Rattle.so_printer.specs.Printing.{PrinterView, IsGoing, IsPrinting}
use Rattle.so_printer.proofs.PieceLaws.{last_cut}
use Rattle.so_printer.proofs.printer.Printer.finish.Goals as goal

pub returns-in-Err-clause-text : goal.returns-in-Err-clause-text
returns-in-Err-clause-text g c = λ first text before.
    let going_still : c.args.self.now.failed ≡ false = sym (ap (λ (s : PrinterView). s.failed) c.self.view_is) ∙ c.if-self.false in
    let going : IsGoing first (g.K.Sink.content c.args.out.now) c.args.self.now text = subst (λ (f : Bool). IsPrinting f first (g.K.Sink.content c.args.out.now) c.args.self.now text) going_still before in
    let piece : c.as_slice.result.now ≡ c.args.self.now.held = c.as_slice.ensures.value ∙ ap (λ (s : PrinterView). s.held) c.self.view_is in
    let more : c.self.inside.pieces + 1 ≡ c.args.self.now.pieces + 1 = ap (λ (m : ℕ). m + 1) (ap (λ (s : PrinterView). s.pieces) c.self.view_is) in
    last_cut first (g.K.Sink.content c.args.out.now) (g.K.Sink.content c.put_all.new.sink) c.args.self.now (c.self.inside.pieces + 1) text c.as_slice.result.now going piece more c.in-Err.ensures.bytes
