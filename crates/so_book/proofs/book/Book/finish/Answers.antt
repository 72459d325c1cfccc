use Rattle.std.proofs.Common.{rules, ◌++◌, ◌∷◌, [], length, sym, ap, ◌∙◌, subst}
use Rattle.std.specs.Prelude.{All}
use Rattle.so_book.specs.declared.view.Stage.TheVariants.{Free}
use Rattle.so_book.specs.Rule.{view_of, gathered}
use Rattle.so_book.specs.Seats.{note_at}
use Rattle.so_book.specs.Passes.{IsPassOf}
use Rattle.so_book.proofs.Making.{gathers_at, ended, ended_with, AllSo}
use Rattle.so_book.proofs.Passing.{notes_of, notes_append, notes_count, all_front, all_last, all_kept, snoc_shift, none_left}
use Rattle.so_book.proofs.book.Book.finish.Goals as goal

pub loop-pass-init : goal.loop-pass-init
loop-pass-init g c =
    let last = c.in-Some.last in
    let left = c.pop.new.self.items in
    let e = c.in-Some.ensures.items in
    let are = subst (All (IsPassOf c.args.self)) e c.requires.passes in
    let at_rest = last.at_rest in (
      all_last (IsPassOf c.args.self) left last are,
      at_rest ∙ ap (λ m. (view_of m.0.notes Free, [])) (sym at_rest),
      all_front (IsPassOf c.args.self) left (last ∷ []) are,
      ap (λ l. notes_of left ++ l) (ap (λ m. m.0.notes) at_rest) ∙ sym (notes_append left (last ∷ [])) ∙ sym (ap notes_of e),
    )

pub join_seat-requires : goal.join_seat-requires
join_seat-requires g c =
    let pass = c.in-Some-pop.pass in
    let left = c.pop-in-loop-pass.new.self.items in
    let t = c.loop-pass.invariant in
    let are = subst (All (IsPassOf c.args.self)) c.in-Some-pop.ensures.items t.2 in
    let sized = c.args.self.sized in (
      t.0,
      all_last (IsPassOf c.args.self) left pass are,
      ap (λ m. m.1) pass.at_rest,
      search rules,
      gathers_at g.V.Chronicle.history g.V.Chronicle.signer c.args.self.table.shared.key.seats _ _ _ _ _ _ _ (ap (λ m. m.0) t.1) (ap (λ m. m.0) pass.at_rest),
    )

pub loop-pass-preserved : goal.loop-pass-preserved
loop-pass-preserved g c =
    let pass = c.in-Some-pop.pass in
    let left = c.pop-in-loop-pass.new.self.items in
    let t = c.loop-pass.invariant in
    let e = c.in-Some-pop.ensures.items in
    let are = subst (All (IsPassOf c.args.self)) e t.2 in
    let old = c.loop-pass.seat in
    let p = c.join_seat.ensures.2 ∙ ap (λ l. (gathered old.me.0 pass.seat.me.0, l)) (ap (λ m. m.1) t.1) in
    let notes = ap (λ m. m.0.notes) p ∙ ap (λ m. m.0.notes ++ old.me.0.notes) pass.at_rest in (
      c.join_seat.ensures.0 ∙ t.0,
      p ∙ ap (λ m. (view_of m.0.notes Free, [])) (sym p),
      all_front (IsPassOf c.args.self) left (pass ∷ []) are,
      ap (λ l. notes_of left ++ l) notes ∙ sym (snoc_shift (notes_of left) (note_at pass.seat) old.me.0.notes) ∙ ap (λ l. l ++ old.me.0.notes) (sym (notes_append left (pass ∷ [])) ∙ sym (ap notes_of e)) ∙ t.3,
    )

pub unreachable-requires-in_default-take : goal.unreachable-requires-in_default-take
unreachable-requires-in_default-take g c =
    let t = c.loop-pass.invariant in
    let none = none_left c.loop-pass.passes.items (search rules) in
    let same = sym (ap (λ l. notes_of l ++ c.loop-pass.seat.me.0.notes) none) ∙ t.3 in
    let all = ap length same ∙ notes_count c.args.passes.items ∙ c.requires.all in
    let z = ended g.V.Chronicle.history g.V.Chronicle.signer c.args.self.table.shared.key.seats _ _ _ _ _ _ _ c.close_with-closed.ensures.values.2 (ap (λ m. m.0) t.1) all c.take.ensures.value in
    c.in_default-take.not-Some z.0 z.1

pub returns : goal.returns
returns g c =
    let t = c.loop-pass.invariant in
    let none = none_left c.loop-pass.passes.items (search rules) in
    let same = sym (ap (λ l. notes_of l ++ c.loop-pass.seat.me.0.notes) none) ∙ t.3 in
    let all = ap length same ∙ notes_count c.args.passes.items ∙ c.requires.all in
    let z = ended_with g.V.Chronicle.history g.V.Chronicle.signer c.args.self.table.shared.key.seats _ _ _ _ _ _ _ c.in-Some-take.value c.close_with-closed.ensures.values.2 (ap (λ m. m.0) t.1) all c.take.ensures.value c.in-Some-take.is in
    all_kept g.V.Chronicle.signer (g.V.Chronicle.history c.in-Some-take.value) c.args.passes.items
    (subst (AllSo g.V.Chronicle.history g.V.Chronicle.signer c.args.self.table.shared.key.seats c.args.self.table.shared.key.len c.in-Some-take.value) same z)
