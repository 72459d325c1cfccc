use Rattle.std.proofs.Common.{◌≡◌, length, ap, sym, arith, rules, vec_len, ◌∙◌}
use Rattle.so_history.specs.Kept.{Kept}
use Rattle.so_history.proofs.PackedLaws.{entries-length}
use Rattle.so_history.proofs.history.History.len.Goals as goal

pub returns-clause-value : goal.returns-clause-value
returns-clause-value c =
    let size : vec_len c.self.inside.entries ≡ length c.self.inside.entries.items = search rules in
    let seen = ap (λ (k : Kept). length k.entries) (sym c.self.view_is) ∙ entries-length c.self.inside.whole.items c.self.inside.entries.items in
    omega (arith, c.len.ensures, size, seen)

pub returns-clause-within : goal.returns-clause-within
returns-clause-within c =
    let size : vec_len c.self.inside.entries ≡ length c.self.inside.entries.items = search rules in
    let seen = ap (λ (k : Kept). length k.entries) (sym c.self.view_is) ∙ entries-length c.self.inside.whole.items c.self.inside.entries.items in
    omega (arith, size, seen, c.self.invariant.0, ap (λ (k : Kept). k.limit) (sym c.self.view_is))
