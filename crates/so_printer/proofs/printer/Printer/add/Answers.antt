use Rattle.std.proofs.Common.{◌≡◌, ℕ, ◌+◌, ◌-◌, List, ◌++◌, length, take, drop, Bool, arith, refl, sym, ◌∙◌, ap, subst, false}
use Rattle.so_printer.specs.Printing.{PrinterView, IsGoing, IsPrinting}
use Rattle.so_printer.proofs.PieceLaws.{one_more, cut, split_line, fills, rest_short}
use Rattle.so_printer.proofs.printer.Printer.add.Goals as goal

pub returns-in-Ok-clause-text : goal.returns-in-Ok-clause-text
returns-in-Ok-clause-text g c = λ first text before.
    let p = c.args.self.now in
    let line = c.args.line.now in
    let n = 4096 - c.len-room.result in
    let view : c.self.inside.held.items ≡ c.args.self.now.held = ap (λ (s : PrinterView). s.held) c.self.view_is in
    let going_still : c.args.self.now.failed ≡ false = sym (ap (λ (s : PrinterView). s.failed) c.self.view_is) ∙ c.if-self.false in
    let going : IsGoing first (g.K.Sink.content c.args.out.now) c.args.self.now text = subst (λ (f : Bool). IsPrinting f first (g.K.Sink.content c.args.out.now) c.args.self.now text) going_still before in
    let piece : c.as_slice.result.now ≡ c.args.self.now.held ++ take (4096 - c.len-room.result) c.args.line.now =
    c.as_slice.ensures.value ∙ (ap (λ (s : PrinterView). s.held) c.self-2.view_is ∙ c.hold-2.ensures.held) in
    let size : c.len-room.result ≡ length c.args.self.now.held = c.len-room.ensures.value ∙ ap length view in
    let full : length c.as_slice.result.now ≡ 4096 =
    ap length piece ∙ fills c.args.self.now.held c.args.line.now (4096 - c.len-room.result) (omega (arith, size, c.len-room.ensures.fits)) (ap (λ (m : ℕ). 4096 - m) size) c.if-line-room.false in
    let more : c.hold-in-Ok.new.self.pieces ≡ c.args.self.now.pieces + 1 =
    c.hold-in-Ok.ensures.pieces ∙ ap (λ (m : ℕ). m + 1) (ap (λ (s : PrinterView). s.pieces) c.self-2.view_is ∙ c.hold-2.ensures.pieces) in
    let held : c.hold-in-Ok.new.self.held ≡ take (length c.args.line.now - (4096 - c.len-room.result)) (drop (4096 - c.len-room.result) c.args.line.now) =
    c.hold-in-Ok.ensures.held ∙ ap (λ (l : List ℕ). l ++ take (length c.args.line.now - (4096 - c.len-room.result)) (drop (4096 - c.len-room.result) c.args.line.now)) c.clear.ensures in
    let failed : c.hold-in-Ok.new.self.failed ≡ false = c.hold-in-Ok.ensures.failed ∙ (ap (λ (s : PrinterView). s.failed) c.self-2.view_is ∙ (c.hold-2.ensures.failed ∙ going_still)) in
    subst (λ (f : Bool). IsPrinting f first (g.K.Sink.content c.put_all.new.sink) c.hold-in-Ok.new.self (text ++ c.args.line.now)) (sym failed)
    (one_more first (g.K.Sink.content c.args.out.now) (g.K.Sink.content c.put_all.new.sink) c.args.self.now c.hold-in-Ok.new.self.pieces text c.args.line.now (take (4096 - c.len-room.result) c.args.line.now) (take (length c.args.line.now - (4096 - c.len-room.result)) (drop (4096 - c.len-room.result) c.args.line.now)) c.as_slice.result.now going piece (split_line (4096 - c.len-room.result) c.args.line.now) full more
    c.hold-in-Ok.new.self refl c.in-Ok.ensures.bytes held (rest_short (4096 - c.len-room.result) c.args.line.now c.requires.short))

pub returns-in-Err-clause-text : goal.returns-in-Err-clause-text
returns-in-Err-clause-text g c = λ first text before.
    let view : c.self.inside.held.items ≡ c.args.self.now.held = ap (λ (s : PrinterView). s.held) c.self.view_is in
    let going_still : c.args.self.now.failed ≡ false = sym (ap (λ (s : PrinterView). s.failed) c.self.view_is) ∙ c.if-self.false in
    let going : IsGoing first (g.K.Sink.content c.args.out.now) c.args.self.now text = subst (λ (f : Bool). IsPrinting f first (g.K.Sink.content c.args.out.now) c.args.self.now text) going_still before in
    let piece : c.as_slice.result.now ≡ c.args.self.now.held ++ take (4096 - c.len-room.result) c.args.line.now =
    c.as_slice.ensures.value ∙ (ap (λ (s : PrinterView). s.held) c.self-2.view_is ∙ c.hold-2.ensures.held) in
    let size : c.len-room.result ≡ length c.args.self.now.held = c.len-room.ensures.value ∙ ap length view in
    let full : length c.as_slice.result.now ≡ 4096 =
    ap length piece ∙ fills c.args.self.now.held c.args.line.now (4096 - c.len-room.result) (omega (arith, size, c.len-room.ensures.fits)) (ap (λ (m : ℕ). 4096 - m) size) c.if-line-room.false in
    let more : c.self-2.inside.pieces + 1 ≡ c.args.self.now.pieces + 1 = ap (λ (m : ℕ). m + 1) (ap (λ (s : PrinterView). s.pieces) c.self-2.view_is ∙ c.hold-2.ensures.pieces) in
    cut first (g.K.Sink.content c.args.out.now) (g.K.Sink.content c.put_all.new.sink) c.args.self.now (c.self-2.inside.pieces + 1) text c.args.line.now (take (4096 - c.len-room.result) c.args.line.now) (take (length c.args.line.now - (4096 - c.len-room.result)) (drop (4096 - c.len-room.result) c.args.line.now)) c.as_slice.result.now going piece (split_line (4096 - c.len-room.result) c.args.line.now) full more
    c.in-Err.ensures.bytes
