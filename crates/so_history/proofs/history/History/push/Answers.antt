use Rattle.std.proofs.Common.{◌≡◌, ◌∷◌, length, ap, ap₂, sym, subst, arith, rules, vec_len, All, ◌∙◌}
use Rattle.std.proofs.lemmas.List.Elements.{All-push}
use Rattle.so_history.specs.Kept.{Kept}
use Rattle.so_history.specs.Packed.{Fits}
use Rattle.so_history.proofs.PackedLaws.{entries-length, entries-more, entries-whole, fits-any, all_fit-more}
use Rattle.so_history.proofs.history.History.push.Goals as goal

-- there is room for one more

pub push_reserved-requires : goal.push_reserved-requires
push_reserved-requires c =
    let size : vec_len c.self.inside.entries ≡ length c.self.inside.entries.items = search rules in
    let seen = ap (λ (k : Kept). length k.entries) (sym c.self.view_is) ∙ entries-length c.self.inside.whole.items c.self.inside.entries.items in
    omega (arith, c.requires, size, seen, c.self.invariant.1, ap (λ (k : Kept). k.limit) (sym c.self.view_is))

pub push_reserved-requires-in_default : goal.push_reserved-requires-in_default
push_reserved-requires-in_default c =
    let size : vec_len c.self.inside.entries ≡ length c.self.inside.entries.items = search rules in
    let seen = ap (λ (k : Kept). length k.entries) (sym c.self.view_is) ∙ entries-length c.self.inside.whole.items c.self.inside.entries.items in
    omega (arith, c.requires, size, seen, c.self.invariant.3, c.self.invariant.4, ap (λ (k : Kept). k.limit) (sym c.self.view_is))

pub push_reserved-requires-in_default-2 : goal.push_reserved-requires-in_default-2
push_reserved-requires-in_default-2 c =
    let size : vec_len c.self.inside.entries ≡ length c.self.inside.entries.items = search rules in
    let seen = ap (λ (k : Kept). length k.entries) (sym c.self.view_is) ∙ entries-length c.self.inside.whole.items c.self.inside.entries.items in
    omega (arith, c.requires, size, seen, c.self.invariant.1, ap (λ (k : Kept). k.limit) (sym c.self.view_is))

-- what is kept stands as the invariant says

pub invariant_of-self : goal.invariant_of-self
invariant_of-self c =
    let short = c.in-Some.short in
    let fits = Fits (vec_len c.self.inside.whole) in
    let size : vec_len c.self.inside.entries ≡ length c.self.inside.entries.items = search rules in
    let seen = ap (λ (k : Kept). length k.entries) (sym c.self.view_is) ∙ entries-length c.self.inside.whole.items c.self.inside.entries.items in (
      omega (arith, c.push_reserved.ensures.len, c.requires, size, seen, ap (λ (k : Kept). k.limit) (sym c.self.view_is)),
      omega (arith, c.push_reserved.ensures.capacity, c.self.invariant.1),
      c.self.invariant.2,
      omega (arith, c.push_reserved.ensures.len, c.self.invariant.3),
      c.self.invariant.4,
      subst (All fits) (sym c.push_reserved.ensures.items) (All-push fits c.self.inside.entries.items short c.self.invariant.5 (fits-any (vec_len c.self.inside.whole) short c.in-Some.ensures.fits)),
    )

pub invariant_of-self-in_default : goal.invariant_of-self-in_default
invariant_of-self-in_default c =
    let size : vec_len c.self.inside.entries ≡ length c.self.inside.entries.items = search rules in
    let seen = ap (λ (k : Kept). length k.entries) (sym c.self.view_is) ∙ entries-length c.self.inside.whole.items c.self.inside.entries.items in
    let all = all_fit-more (vec_len c.self.inside.whole) c.self.inside.entries.items c.self.invariant.5 in (
      omega (arith, c.push_reserved-in_default-2.ensures.len, c.requires, size, seen, ap (λ (k : Kept). k.limit) (sym c.self.view_is)),
      omega (arith, c.push_reserved-in_default-2.ensures.capacity, c.self.invariant.1),
      c.self.invariant.2,
      omega (arith, c.push_reserved-in_default-2.ensures.len, c.push_reserved-in_default.ensures.len, c.self.invariant.3),
      omega (arith, c.push_reserved-in_default.ensures.capacity, c.self.invariant.4),
      rw (c.push_reserved-in_default.ensures.len, c.push_reserved-in_default-2.ensures.items, c.len-at.ensures) all,
    )

-- the newest entry is the one that was added

pub returns-in-Some-clause-entries : goal.returns-in-Some-clause-entries
returns-in-Some-clause-entries c =
    let whole = c.self.inside.whole.items in
    rw c.push_reserved.ensures.items (entries-more whole c.self.inside.entries.items c.in-Some.short ∙ ap₂ (λ e es. e ∷ es) (c.in-Some.ensures.stands whole) (ap (λ (k : Kept). k.entries) c.self.view_is))

pub returns-in_default-clause-entries : goal.returns-in_default-clause-entries
returns-in_default-clause-entries c =
    let whole = c.self.inside.whole.items in
    let shorts = c.self.inside.entries.items in
    let size : vec_len c.self.inside.whole ≡ length whole = search rules in
    let all : All (Fits (length whole)) shorts = subst (λ n. All (Fits n) shorts) size c.self.invariant.5 in
    rw (c.push_reserved-in_default.ensures.items, c.push_reserved-in_default-2.ensures.items, c.len-at.ensures, size)
    (entries-whole whole c.args.entry shorts all ∙ ap (λ (k : Kept). c.args.entry ∷ k.entries) c.self.view_is)
