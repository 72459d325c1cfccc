-- How a round is moved, and what a taking makes of it.
use Rattle.std.proofs.Common.{◌≡◌, ℕ, zero, suc, ◌+◌, ◌<◌, ◌≤◌, ◌⊎◌, Bool, true, false, ◌&&◌, List, Option, Some, None, arith, refl, sym, ◌∙◌, ap, subst, inl, inr, unwrap_or}
use Rattle.std.specs.List.{find}
use Rattle.std.proofs.lemmas.Bool.{cases_eq, cases_lt, cases_Bool, and_parts, eq-eqb, ne_eqb, false≢true}
use Rattle.std.proofs.Math.Bridge.{le_prop}
use Rattle.so_ids.specs.declared.Priority.{Priority}
use Rattle.so_scene.specs.declared.round.Round.{Round}
use Rattle.so_scene.specs.Rounds.{next_lower, level_below, down_from, priorities_after, has_demand, next_priority, has_left, new_round, moved, one_used, after_taking, HasSome, TakesOne}

-- priorities of one level are the same
pub same_priority : (a b : Priority) → a.level ≡ b.level → a ≡ b
same_priority a b e =
    let P : ℕ → Type 0 = λ l. (h : l ≤ 7) → a ≡ record { level = l; in_range = h } in
    subst P e (λ h. ap (λ (r : a.level ≤ 7). record { level = a.level; in_range = r }) (le_prop a.in_range h)) b.in_range

-- of the priorities below one, the first that has a demand has one
pub found_has : (has : ℕ → Bool) (n : ℕ) (p q : Priority) → find (has_demand has) (down_from p n) ≡ Some q → has q.level ≡ true
found_has has zero p q is = cc
found_has has (suc n) p q is =
    elim (cases_Bool (has (level_below p.level))) [
      | inl t ↦ (let same : next_lower p ≡ q = (let e = (rw t at is) in cc) in ap (has_demand has) (sym same) ∙ t)
      | inr f ↦ found_has has n (next_lower p) q (rw f at is)
    ]

-- how far a level is below another, where 7 is below 0
abbrev pub IsWithin : ℕ → ℕ → ℕ → Type 0
IsWithin n p q = ((q < p) × (p ≤ q + n)) ⊎ ((p ≤ q) × (p + 8 ≤ q + n))

one_nearer : (n p q : ℕ) → q ≤ 7 → IsWithin (suc n) p q → (q ≡ level_below p) ⊎ IsWithin n (level_below p) q
one_nearer n zero q few w =
    elim w [
      | inl x ↦ absurd (let l = x.0 in omega arith)
      | inr y ↦ elim (cases_eq q 7) [ inl e ↦ inl e | inr o ↦ (let m = y.1 in inr (inl (omega arith, omega arith))) ]
    ]
one_nearer n (suc p) q few w =
    elim w [
      | inl x ↦ (let l = x.0 in let m = x.1 in elim (cases_eq q p) [ inl e ↦ inl e | inr o ↦ inr (inl (omega arith, omega arith)) ])
      | inr y ↦ (let l = y.0 in let m = y.1 in inr (inr (omega arith, omega arith)))
    ]

too_far : (p q : ℕ) → q ≤ 7 → IsWithin 0 p q → ⊥
too_far p q few w =
    elim w [ inl x ↦ (let l = x.0 in let m = x.1 in omega arith) | inr y ↦ (let m = y.1 in omega arith) ]

none_within : (has : ℕ → Bool) (n : ℕ) (p : Priority) (q : ℕ) → find (has_demand has) (down_from p n) ≡ None → q ≤ 7 → IsWithin n p.level q → has q ≡ false
none_within has zero p q is few w = absurd (too_far p.level q few w)
none_within has (suc n) p q is few w =
    elim (cases_Bool (has (level_below p.level))) [
      | inl t ↦ (let e = (rw t at is) in cc)
      | inr f ↦
          elim (one_nearer n p.level q few w) [
            | inl here ↦ ap has here ∙ f
            | inr nearer ↦ none_within has n (next_lower p) q (rw f at is) few nearer
          ]
    ]

all_within : (p q : ℕ) → p ≤ 7 → q ≤ 7 → IsWithin 8 p q
all_within p q few less =
    elim (cases_lt q p) [ inl l ↦ inl (l, omega arith) | inr m ↦ inr (m, omega arith) ]

-- where some priority has a demand, the next one has
next_has : (has : ℕ → Bool) (p : Priority) (o : Option Priority) → HasSome has → find (has_demand has) (priorities_after p) ≡ o → has (unwrap_or o p).level ≡ true
next_has has p None some is = absurd (false≢true (sym (none_within has 8 p some.at.level is some.at.in_range (all_within p.level some.at.level p.in_range some.at.in_range)) ∙ some.here))
next_has has p (Some q) some is = found_has has 8 p q is

-- so a moved round stands at a priority that has a demand
pub moved_has : (quotes : List ℕ) (has : ℕ → Bool) (r : Round) → HasSome has → has (moved quotes has r).priority.level ≡ true
unfolding moved
moved_has quotes has r some =
    elim (cases_Bool (has_left quotes r && has r.priority.level)) [
      | inl t ↦ rw t (and_parts (has_left quotes r) (has r.priority.level) t).1
      | inr f ↦ rw f (next_has has r.priority (find (has_demand has) (priorities_after r.priority)) some refl)
    ]

-- and after the taking, one more of the moved round is used
moves_on : (quotes : List ℕ) (has : ℕ → Bool) (r : Round) (p : Priority) → (has_left quotes r && has r.priority.level) ≡ false → has p.level ≡ true → after_taking quotes p r ≡ one_used (new_round p)
moves_on quotes has r p stops some =
    elim (cases_eq p.level r.priority.level) [
      | inl e ↦
          (let on : has r.priority.level ≡ true = ap has (sym e) ∙ some in
          let used_up : has_left quotes r ≡ false = elim (cases_Bool (has_left quotes r)) [ inl t ↦ absurd (false≢true (sym stops ∙ rw (t, on) refl)) | inr o ↦ o ] in
          rw (eq-eqb p.level r.priority.level e, used_up) refl)
      | inr o ↦ rw (ne_eqb p.level r.priority.level o) refl
    ]

pub takes_one : (quotes : List ℕ) (r : Round) → TakesOne quotes r
unfolding moved
takes_one quotes r has some =
    elim (cases_Bool (has_left quotes r && has r.priority.level)) [
      | inl t ↦ (let parts = and_parts (has_left quotes r) (has r.priority.level) t in rw t (rw (eq-eqb r.priority.level r.priority.level refl, parts.0) refl))
      | inr f ↦ rw f (moves_on quotes has r (next_priority has r.priority) f (next_has has r.priority (find (has_demand has) (priorities_after r.priority)) some refl))
    ]
